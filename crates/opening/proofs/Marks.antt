-- The set of the states with a mark, state by state.
use mathlib.Core.Path.{◌≡◌, sym, ap, ◌∙◌}
use mathlib.Core.Bool.{Bool, true, false, ◌&&◌, ◌||◌, and-false, or-false}
use mathlib.Core.Logic.{⊎_elim}
use Prim.Native.Nat.{ℕ, ◌+◌, ◌<◌, zero-le}
use native.Mathlib.Omega.{arith}
use lib.Dec.{eqb, ltb}
use borrow.Author.Tests.{eqb-true, eq-eqb, lt-ltb, le-ltb, ltb-true}
use Rattle.theory.proofs.Below.{both_ways, or_cases, or_left, or_right, and_left, and_right, and_both, lt_or_le}

pub marked_none : (f none : ℕ → Bool) → ((p : ℕ) → none p ≡ false) → (p : ℕ) → none p ≡ (ltb p 0 && f p)
marked_none f none n p = n p ∙ ap (λ (b : Bool). b && f p) (sym (le-ltb p 0 zero-le))

module _ (f old : ℕ → Bool) (q : ℕ) (o : (p : ℕ) → old p ≡ (ltb p q && f p)) where
  -- what passes below q + 1 passes below q, or is q
  split : (p : ℕ) → (ltb p (q + 1) && f p) ≡ true → ((ltb p q && f p) || (eqb p q && f q)) ≡ true
  split p t =
      let l = ltb-true p (q + 1) (and_left (ltb p (q + 1)) (f p) t) in
      let h = and_right (ltb p (q + 1)) (f p) t in
      ⊎_elim
      (λ s. or_left (ltb p q && f p) (eqb p q && f q) (and_both (ltb p q) (f p) (lt-ltb p q s) h))
      (λ s. (let e : p ≡ q = omega (arith, s, l) in or_right (ltb p q && f p) (eqb p q && f q) (and_both (eqb p q) (f q) (eq-eqb p q e) (ap f (sym e) ∙ h))))
      (lt_or_le p q)

  join : (p : ℕ) → ((ltb p q && f p) || (eqb p q && f q)) ≡ true → (ltb p (q + 1) && f p) ≡ true
  join p t =
      ⊎_elim
      (λ s. and_both (ltb p (q + 1)) (f p) (lt-ltb p (q + 1) (omega (arith, ltb-true p q (and_left (ltb p q) (f p) s)))) (and_right (ltb p q) (f p) s))
      (λ s. (let e = eqb-true p q (and_left (eqb p q) (f q) s) in
      and_both (ltb p (q + 1)) (f p) (lt-ltb p (q + 1) (omega (arith, e))) (ap f e ∙ and_right (eqb p q) (f q) s)))
      (or_cases (ltb p q && f p) (eqb p q && f q) t)

  one_more : (p : ℕ) → ((ltb p q && f p) || (eqb p q && f q)) ≡ (ltb p (q + 1) && f p)
  one_more p = both_ways (join p) (split p)

  pub marked_more : (limit : ℕ) (new : ℕ → Bool) → q < limit → f q ≡ true → ((p : ℕ) → new p ≡ (old p || (eqb p q && ltb q limit))) → (p : ℕ)
      → new p ≡ (ltb p (q + 1) && f p)
  marked_more limit new l t e p = e p ∙ rw (o p, lt-ltb q limit l, ← t) (one_more p)

  pub marked_same : f q ≡ false → (p : ℕ) → old p ≡ (ltb p (q + 1) && f p)
  marked_same t p = o p ∙ sym (or-false (ltb p q && f p))
      ∙ ap (λ (b : Bool). (ltb p q && f p) || b) (sym (and-false (eqb p q)) ∙ ap (λ (b : Bool). eqb p q && b) (sym t)) ∙ one_more p
