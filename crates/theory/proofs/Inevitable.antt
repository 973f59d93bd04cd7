-- `inevitable` says exactly that every trace of some length leads to a state that passes the test, where the test is kept by every step.
use mathlib.Core.Path.{◌≡◌, refl, sym, ap, ◌∙◌}
use mathlib.Core.Bool.{Bool, true, ◌||◌}
use mathlib.Core.List.{List, [], ◌∷◌}
use mathlib.Core.Logic.{⊎_elim}
use Prim.Native.Nat.{ℕ, zero, suc, ◌+◌, ◌≤◌, ◌<◌}
use native.Mathlib.Nat.{add-zero, add-suc, add_comm}
use native.Mathlib.Omega.{arith}
use lib.ListN.{length}
use Rattle.theory.specs.Below.{every, count}
use Rattle.theory.specs.Automaton.{Automaton, Closed, Trace, run, inevitable_within, inevitable}
use Rattle.theory.proofs.Below.{or_cases, or_left, or_right, every_at, every_all, every_same}
use Rattle.theory.proofs.Reach.{lasts}
use Rattle.theory.proofs.Rounds.{stopped, stopped_at}

-- a trace of each length
pub record Long (g : Automaton) (l : ℕ) : Type 0 where
  pub word : List ℕ
  pub trace : Trace g word
  pub long : length word ≡ l

pub long_trace : (g : Automaton) → 1 ≤ g.symbols → (l : ℕ) → Long g l
unfolding Trace
long_trace g k zero = record { word = []; trace = tt; long = refl }
long_trace g k (suc l) = (let t = long_trace g k l in record { word = 0 ∷ t.word; trace = (k, t.trace); long = ap suc t.long })

module _ (g : Automaton) (f : ℕ → Bool) where
  abbrev after : ℕ → ℕ → ℕ → Bool
  after r q a = inevitable_within g f r (g.next q a)

  pub inevitable_here : (r q : ℕ) → f q ≡ true → inevitable_within g f r q ≡ true
  unfolding inevitable_within
  inevitable_here zero q e = e
  inevitable_here (suc r) q e = or_left (f q) _ e

  pub inevitable_step : (r q : ℕ) → ((a : ℕ) → a < g.symbols → inevitable_within g f r (g.next q a) ≡ true) → inevitable_within g f (suc r) q ≡ true
  unfolding inevitable_within
  inevitable_step r q h = or_right (f q) (every g.symbols (after r q)) (every_all g.symbols (after r q) h)

  inevitable_more : (r q : ℕ) → inevitable_within g f r q ≡ true → inevitable_within g f (suc r) q ≡ true
  unfolding inevitable_within
  inevitable_more zero q e = inevitable_here 1 q e
  inevitable_more (suc r) q e =
      ⊎_elim (inevitable_here (suc (suc r)) q)
      (λ s. inevitable_step (suc r) q (λ a l. inevitable_more r (g.next q a) (every_at g.symbols (after r q) s a l)))
      (or_cases (f q) (every g.symbols (after r q)) e)

  inevitable_later : (r j q : ℕ) → inevitable_within g f r q ≡ true → inevitable_within g f (r + j) q ≡ true
  inevitable_later r zero q e = rw (add-zero r) e
  inevitable_later r (suc j) q e = rw (add-suc r j) (inevitable_more (r + j) q (inevitable_later r j q e))

  inevitable_stays : Closed g → (r : ℕ) → ((p : ℕ) → p < g.states → inevitable_within g f (suc r) p ≡ inevitable_within g f r p)
      → (p : ℕ) → p < g.states → inevitable_within g f (suc (suc r)) p ≡ inevitable_within g f (suc r) p
  unfolding inevitable_within
  inevitable_stays c r s p l =
      ap (λ (b : Bool). f p || b) (every_same g.symbols (after (suc r) p) (after r p) (λ a h. s (g.next p a) (c.next_in p a l h)))

  -- within any number of symbols, and so within n
  pub inevitable_enough : Closed g → (r q : ℕ) → q < g.states → inevitable_within g f r q ≡ true → inevitable g f q ≡ true
  inevitable_enough c r q l e =
      sym (stopped g.states (inevitable_within g f) (λ r p _. inevitable_more r p) (inevitable_stays c) r q l)
      ∙ ap (λ (i : ℕ). inevitable_within g f i q) (add_comm g.states r) ∙ inevitable_later r g.states q e

  -- where some state passes the test, less than n symbols are enough
  pub inevitable_short : Closed g → (r q : ℕ) → q < g.states → g.states ≤ count g.states f + r → inevitable g f q ≡ true → inevitable_within g f r q ≡ true
  unfolding inevitable_within
  inevitable_short c r q l few e =
      sym (stopped_at g.states (inevitable_within g f) (λ r p _. inevitable_more r p) (inevitable_stays c) r few g.states q l)
      ∙ ap (λ (i : ℕ). inevitable_within g f i q) (add_comm r g.states) ∙ inevitable_later g.states r q e

  -- at the end of every trace of r symbols the test is passed, where it is kept
  module _ (c : Closed g) (kept : (q a : ℕ) → q < g.states → a < g.symbols → f q ≡ true → f (g.next q a) ≡ true) where
    pub inevitable_sound : (r q : ℕ) → q < g.states → inevitable_within g f r q ≡ true → (w : List ℕ) → Trace g w → length w ≡ r → f (run g q w) ≡ true
    unfolding inevitable_within Trace run
    inevitable_sound zero q l e [] t s = e
    inevitable_sound zero q l e (a ∷ w) t s = absurd (omega arith)
    inevitable_sound (suc r) q l e [] t s = absurd (omega arith)
    inevitable_sound (suc r) q l e (a ∷ w) t s =
        ⊎_elim (lasts f c kept q (a ∷ w) l t)
        (λ h. inevitable_sound r (g.next q a) (c.next_in q a l t.0) (every_at g.symbols (after r q) h a t.0) w t.1 (omega (arith, s)))
        (or_cases (f q) (every g.symbols (after r q)) e)

  pub inevitable_complete : (r q : ℕ) → ((w : List ℕ) → Trace g w → length w ≡ r → f (run g q w) ≡ true) → inevitable_within g f r q ≡ true
  unfolding inevitable_within Trace run
  inevitable_complete zero q h = h [] tt refl
  inevitable_complete (suc r) q h = inevitable_step r q (λ a l. inevitable_complete r (g.next q a) (λ w t s. h (a ∷ w) (l, t) (ap suc s)))
