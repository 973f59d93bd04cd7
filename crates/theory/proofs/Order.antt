-- The written order is a strict order: no series precedes itself, and the order is transitive.
use mathlib.Core.Path.{◌≡◌, sym, ◌∙◌, subst}
use mathlib.Core.List.{List, [], ◌∷◌}
use mathlib.Core.Logic.{◌⊎◌, inl, inr, ⊎_elim}
use Prim.Native.Nat.{ℕ, ◌<◌}
use native.Mathlib.Omega.{arith}
use Rattle.theory.specs.Faults.{FaultStep}
use Rattle.theory.specs.Series.{Series, Lower, StepFirst, StepByStep, Precedes}

-- ---- nothing stands before itself

-- by a number, and then by more
alone : (P : Type 0) (a : ℕ) → (P → ⊥) → (a < a) ⊎ ((a ≡ a) × P) → ⊥
alone P a f (inl l) = omega (arith, l)
alone P a f (inr (e, p)) = f p

lower_self : (w : List ℕ) → Lower w w → ⊥
lower_self [] h = h
lower_self (a ∷ w) h = alone _ _ (lower_self w) h

step_self : (s : FaultStep) → StepFirst s s → ⊥
step_self s h = alone _ _ (⊎_elim (lower_self s.sent) (λ t. (let l : s.replacement < s.replacement = t.1 in omega arith))) h

by_step_self : (x : List ℕ) (s : FaultStep) (v : List ℕ) → StepByStep x s v x s v → ⊥
by_step_self [] s v h = ⊎_elim (step_self s) (λ r. lower_self v r.1) h
by_step_self (a ∷ x) s v h = alone _ _ (by_step_self x s v) h

pub precedes_not_itself : (s : Series) → Precedes s s → ⊥
precedes_not_itself s h = alone _ _ (by_step_self s.before s.fault s.after) h

-- ---- one after the other

-- two comparisons by a number, and then by more
both : (P Q R : Type 0) (a b c : ℕ) → (P → Q → R) → (a < b) ⊎ ((a ≡ b) × P) → (b < c) ⊎ ((b ≡ c) × Q) → (a < c) ⊎ ((a ≡ c) × R)
both P Q R a b c f (inl l) (inl m) = inl (omega (arith, l, m))
both P Q R a b c f (inl l) (inr (e, q)) = inl (omega (arith, l, e))
both P Q R a b c f (inr (e, p)) (inl m) = inl (omega (arith, e, m))
both P Q R a b c f (inr (e, p)) (inr (h, q)) = inr (e ∙ h, f p q)

lower_then : (u v w : List ℕ) → Lower u v → Lower v w → Lower u w
lower_then [] v w h k = absurd h
lower_then (a ∷ u) [] w h k = absurd h
lower_then (a ∷ u) (b ∷ v) [] h k = absurd k
lower_then (a ∷ u) (b ∷ v) (c ∷ w) h k = both (Lower u v) (Lower v w) (Lower u w) a b c (lower_then u v w) h k

-- by what is sent, and then by the replacement
abbrev Within : FaultStep → FaultStep → Type 0
Within s t = Lower s.sent t.sent ⊎ ((s.sent ≡ t.sent) × (s.replacement < t.replacement))

within_then : (r s t : FaultStep) → Within r s → Within s t → Within r t
within_then r s t (inl l) (inl m) = inl (lower_then r.sent s.sent t.sent l m)
within_then r s t (inl l) (inr (e, m)) = inl (subst (Lower r.sent) e l)
within_then r s t (inr (e, l)) (inl m) = inl (subst (λ (w : List ℕ). Lower w t.sent) (sym e) m)
within_then r s t (inr (e, l)) (inr (h, m)) = inr (e ∙ h, omega (arith, l, m))

step_then : (r s t : FaultStep) → StepFirst r s → StepFirst s t → StepFirst r t
step_then r s t h k = both (Within r s) (Within s t) (Within r t) r.kind s.kind t.kind (within_then r s t) h k

by_step_then : (x y z : List ℕ) (r s t : FaultStep) (u v w : List ℕ) → StepByStep x r u y s v → StepByStep y s v z t w → StepByStep x r u z t w
by_step_then [] [] [] r s t u v w h k = now h k
  where
    now : StepFirst r s ⊎ ((r ≡ s) × Lower u v) → StepFirst s t ⊎ ((s ≡ t) × Lower v w) → StepFirst r t ⊎ ((r ≡ t) × Lower u w)
    now (inl l) (inl m) = inl (step_then r s t l m)
    now (inl l) (inr (e, m)) = inl (subst (StepFirst r) e l)
    now (inr (e, l)) (inl m) = inl (subst (λ (f : FaultStep). StepFirst f t) (sym e) m)
    now (inr (e, l)) (inr (f, m)) = inr (e ∙ f, lower_then u v w l m)
by_step_then [] y (c ∷ z) r s t u v w h k = tt
by_step_then [] (b ∷ y) [] r s t u v w h k = absurd k
by_step_then (a ∷ x) [] z r s t u v w h k = absurd h
by_step_then (a ∷ x) (b ∷ y) [] r s t u v w h k = absurd k
by_step_then (a ∷ x) (b ∷ y) (c ∷ z) r s t u v w h k =
    both (StepByStep x r u y s v) (StepByStep y s v z t w) (StepByStep x r u z t w) a b c (by_step_then x y z r s t u v w) h k

pub precedes_then : (r s t : Series) → Precedes r s → Precedes s t → Precedes r t
precedes_then r s t h k =
    both _ _ _ _ _ _
    (by_step_then r.before s.before t.before r.fault s.fault t.fault r.after s.after t.after) h k
