-- `leads` says exactly that some trace of any length leads to a state that passes the test.
use mathlib.Core.Path.{◌≡◌, refl, sym, ap, ◌∙◌}
use mathlib.Core.Bool.{Bool, true, ◌||◌}
use mathlib.Core.List.{List, [], ◌∷◌, ◌++◌}
use mathlib.Core.Logic.{⊎_elim}
use Prim.Native.Nat.{ℕ, zero, suc, ◌+◌, ◌≤◌, ◌<◌, zero-le, suc-le-suc}
use native.Mathlib.Nat.{le_of_suc-le-suc, not-suc-le-zero}
use native.Mathlib.Omega.{arith}
use lib.ListN.{length}
use lib.Dec.{eqb}
use borrow.Author.Tests.{eqb-true, eq-eqb}
use Rattle.theory.specs.Below.{any}
use Rattle.theory.specs.Automaton.{Automaton, Closed, Trace, run, Reaches, within, leads, reached_from}
use Rattle.theory.proofs.Below.{both_ways, or_cases, or_left, or_right, any_at, any_find, any_same}
use Rattle.theory.proofs.Rounds.{stopped}

-- ---- runs

pub run_in : {g : Automaton} → Closed g → (q : ℕ) (w : List ℕ) → q < g.states → Trace g w → run g q w < g.states
unfolding run Trace
run_in c q [] l t = l
run_in {g} c q (a ∷ w) l t = run_in c (g.next q a) w (c.next_in q a l t.0) t.1

-- a test that every step keeps is kept along a trace
pub lasts : {g : Automaton} (f : ℕ → Bool) → Closed g → ((q a : ℕ) → q < g.states → a < g.symbols → f q ≡ true → f (g.next q a) ≡ true)
    → (q : ℕ) (w : List ℕ) → q < g.states → Trace g w → f q ≡ true → f (run g q w) ≡ true
unfolding Trace run
lasts f c kept q [] l t e = e
lasts {g} f c kept q (a ∷ w) l t e = lasts f c kept (g.next q a) w (c.next_in q a l t.0) t.1 (kept q a l t.0 e)

pub run_append : (g : Automaton) (q : ℕ) (v w : List ℕ) → run g q (v ++ w) ≡ run g (run g q v) w
unfolding run
run_append g q [] w = refl
run_append g q (a ∷ v) w = run_append g (g.next q a) v w

pub trace_append : (g : Automaton) (v w : List ℕ) → Trace g v → Trace g w → Trace g (v ++ w)
unfolding Trace
trace_append g [] w s t = t
trace_append g (a ∷ v) w s t = (s.0, trace_append g v w s.1 t)

pub trace_left : (g : Automaton) (v w : List ℕ) → Trace g (v ++ w) → Trace g v
unfolding Trace
trace_left g [] w t = tt
trace_left g (a ∷ v) w t = (t.0, trace_left g v w t.1)

pub trace_right : (g : Automaton) (v w : List ℕ) → Trace g (v ++ w) → Trace g w
unfolding Trace
trace_right g [] w t = t
trace_right g (a ∷ v) w t = trace_right g v w t.1

-- ---- reaching a state that passes the test

pub record Hits (g : Automaton) (f : ℕ → Bool) (q : ℕ) : Type 0 where
  pub word : List ℕ
  pub trace : Trace g word
  pub passes : f (run g q word) ≡ true

pub reaches_hits : {g : Automaton} {q p : ℕ} (f : ℕ → Bool) → f p ≡ true → Reaches g q p → Hits g f q
reaches_hits f e r = record { word = r.word; trace = r.trace; passes = ap f r.arrives ∙ e }

unfoldable pub hits_here : (g : Automaton) (f : ℕ → Bool) (q : ℕ) → f q ≡ true → Hits g f q
unfolding Trace run
hits_here g f q e = record { word = []; trace = tt; passes = e }

unfoldable pub hits_step : (g : Automaton) (f : ℕ → Bool) (q a : ℕ) → a < g.symbols → Hits g f (g.next q a) → Hits g f q
unfolding Trace run
hits_step g f q a l h = record { word = a ∷ h.word; trace = (l, h.trace); passes = h.passes }

-- the same within r symbols
pub record HitsWithin (g : Automaton) (f : ℕ → Bool) (r q : ℕ) : Type 0 where
  pub hits : Hits g f q
  pub short : length hits.word ≤ r

module _ (g : Automaton) (f : ℕ → Bool) where
  -- some symbol leads from q to a state from which r symbols are enough
  abbrev after : ℕ → ℕ → ℕ → Bool
  after r q a = within g f r (g.next q a)

  now : (r q : ℕ) → f q ≡ true → HitsWithin g f r q
  unfolding hits_here
  now r q e = record { hits = hits_here g f q e; short = zero-le }

  within_sound : (r q : ℕ) → within g f r q ≡ true → HitsWithin g f r q
  unfolding within hits_step
  within_sound zero q e = now zero q e
  within_sound (suc r) q e =
      ⊎_elim (now (suc r) q)
      (λ s.
      let b = any_find g.symbols (after r q) s in
      let h = within_sound r (g.next q b.0) b.2 in
      record { hits = hits_step g f q b.0 b.1 h.hits; short = suc-le-suc h.short })
      (or_cases (f q) (any g.symbols (after r q)) e)

  within_complete : (r q : ℕ) (w : List ℕ) → length w ≤ r → Trace g w → f (run g q w) ≡ true → within g f r q ≡ true
  unfolding within Trace run
  within_complete zero q [] l t e = e
  within_complete zero q (a ∷ w) l t e = absurd (not-suc-le-zero l)
  within_complete (suc r) q [] l t e = or_left (f q) (any g.symbols (after r q)) e
  within_complete (suc r) q (a ∷ w) l t e =
      or_right (f q) (any g.symbols (after r q))
      (any_at g.symbols (after r q) a t.0 (within_complete r (g.next q a) w (le_of_suc-le-suc l) t.1 e))

  within_more : (r q : ℕ) → within g f r q ≡ true → within g f (suc r) q ≡ true
  unfolding within
  within_more zero q e = or_left (f q) (any g.symbols (after zero q)) e
  within_more (suc r) q e =
      ⊎_elim (or_left (f q) (any g.symbols (after (suc r) q)))
      (λ s. (let b = any_find g.symbols (after r q) s in
      or_right (f q) (any g.symbols (after (suc r) q)) (any_at g.symbols (after (suc r) q) b.0 b.1 (within_more r (g.next q b.0) b.2))))
      (or_cases (f q) (any g.symbols (after r q)) e)

  within_stays : Closed g → (r : ℕ) → ((p : ℕ) → p < g.states → within g f (suc r) p ≡ within g f r p)
      → (p : ℕ) → p < g.states → within g f (suc (suc r)) p ≡ within g f (suc r) p
  unfolding within
  within_stays c r s p l =
      ap (λ (b : Bool). f p || b) (any_same g.symbols (after (suc r) p) (after r p) (λ a h. s (g.next p a) (c.next_in p a l h)))

  pub leads_short : (q : ℕ) → leads g f q ≡ true → HitsWithin g f g.states q
  unfolding leads
  leads_short q e = within_sound g.states q e

  pub leads_sound : (q : ℕ) → leads g f q ≡ true → Hits g f q
  leads_sound q e = (leads_short q e).hits

  pub leads_complete : Closed g → (q : ℕ) → q < g.states → Hits g f q → leads g f q ≡ true
  unfolding leads
  leads_complete c q l h =
      sym (stopped g.states (within g f) (λ r p _. within_more r p) (within_stays c) (length h.word) q l)
      ∙ within_complete (g.states + length h.word) q h.word (omega arith) h.trace h.passes

-- only the states matter: tests that agree on them lead alike
pub leads_same : {g : Automaton} → Closed g → (f h : ℕ → Bool) → ((p : ℕ) → p < g.states → f p ≡ h p) → (q : ℕ) → q < g.states → leads g f q ≡ leads g h q
leads_same {g} c f h e q l =
    both_ways
    (λ t. leads_complete g h c q l (over f h e (leads_sound g f q t)))
    (λ t. leads_complete g f c q l (over h f (λ p s. sym (e p s)) (leads_sound g h q t)))
  where
    over : (x y : ℕ → Bool) → ((p : ℕ) → p < g.states → x p ≡ y p) → Hits g x q → Hits g y q
    over x y s m = record {
      word = m.word;
      trace = m.trace;
      passes = sym (s (run g q m.word) (run_in c q m.word l m.trace)) ∙ m.passes;
    }

-- ---- reaching a state

pub reached_sound : (g : Automaton) (q p : ℕ) → reached_from g q p ≡ true → Reaches g q p
reached_sound g q p e =
    let h = leads_sound g (eqb p) q e in
    record { word = h.word; trace = h.trace; arrives = sym (eqb-true p (run g q h.word) h.passes) }

pub reached_complete : {g : Automaton} {q p : ℕ} → Closed g → q < g.states → Reaches g q p → reached_from g q p ≡ true
reached_complete {g} {q} {p} c l r = leads_complete g (eqb p) c q l (reaches_hits (eqb p) (eq-eqb p p refl) r)
