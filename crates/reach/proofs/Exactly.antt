-- Sets that hold exactly the states that pass a test, and what a closure makes of them.
use mathlib.Core.Path.{◌≡◌, refl, sym, ap, subst, ◌∙◌}
use mathlib.Core.Bool.{Bool, true, false, ◌&&◌, ◌||◌}
use mathlib.Core.Logic.{⊎_elim}
use Prim.Native.Nat.{ℕ, ◌≤◌, ◌<◌}
use borrow.Author.Tests.{lt-ltb, le-ltb}
use Rattle.theory.specs.Automaton.{Automaton, Closed, leads}
use Rattle.theory.proofs.Below.{lt_or_le}
use Rattle.theory.proofs.Reach.{hits_here, leads_complete, leads_same}
use Rattle.state_set.specs.declared.StateSet.{StateSet}
use Rattle.state_set.specs.Member.{member, Exactly}
use Rattle.reach.specs.Closure.{Reaching}

-- below the limit and past it
pub exactly_in : {n : ℕ} {f : ℕ → Bool} {s : StateSet} → Exactly n f s → (q : ℕ) → q < n → member s q ≡ f q
exactly_in {n} {f} e q l = e.at q ∙ ap (λ (b : Bool). b && f q) (lt-ltb q n l)

pub exactly_out : {n : ℕ} {f : ℕ → Bool} {s : StateSet} → Exactly n f s → (q : ℕ) → n ≤ q → member s q ≡ false
exactly_out {n} {f} e q l = e.at q ∙ ap (λ (b : Bool). b && f q) (le-ltb q n l)

-- a limit that is equal to another
pub exactly_at : {n m : ℕ} {f : ℕ → Bool} {s : StateSet} → n ≡ m → Exactly n f s → Exactly m f s
exactly_at {f = f} {s = s} e x = subst (λ (i : ℕ). Exactly i f s) e x

-- s holds the states that pass f, r the states that reach s: it holds those from which some trace leads to a state that passes f
pub reaching_is : {g : Automaton} {f : ℕ → Bool} {s r : StateSet} → Closed g → Exactly g.states f s → Reaching g s r → Exactly g.states (leads g f) r
reaching_is {g} {f} {s} c x e = record {
  at = λ p.
      e p ∙ ⊎_elim
      (λ (l : p < g.states). rw (exactly_in x p l, lt-ltb p g.states l, leads_same c (member s) f (exactly_in x) p l)
      (within (f p) (leads g f p) (λ t. leads_complete g f c p l (hits_here g f p t))))
      (λ l. rw (exactly_out x p l, le-ltb p g.states l))
      (lt_or_le p g.states);
}
  where
    within : (a b : Bool) → (a ≡ true → b ≡ true) → (a || b) ≡ b
    within true b h = sym (h refl)
    within false b h = refl
