-- The cheapest of some fault steps, put together from those of parts of them.
use mathlib.Core.Path.{◌≡◌, sym, ap, ◌∙◌, subst}
use mathlib.Core.List.{List}
use mathlib.Core.Logic.{◌⊎◌, inl, inr, ⊎_elim}
use Prim.Native.Nat.{ℕ, ◌+◌, ◌≤◌, ◌<◌, min}
use native.Mathlib.Nat.{le_refl, le_trans, le_antisymm, le_of_eq}
use native.Mathlib.Omega.{arith}
use lib.ListN.{length}
use Rattle.theory.specs.Automaton.{Automaton, run}
use Rattle.theory.specs.Faults.{FaultStep}
use Rattle.theory.proofs.Below.{lt_or_le}
use Rattle.square.specs.Square.{never, entry}
use Rattle.faults.specs.Steps.{plus, cost_of, Attained, Cheapest}
use Rattle.faults.specs.Looks.{Upto}

-- ---- the cost of a step

plus_most : (l e : ℕ) → plus l e ≤ never
plus_most l e = omega arith

-- ---- the cheapest of some steps, as loops find it

cost_most : (g : Automaton) (square : List ℕ) (p : ℕ) (s : FaultStep) → cost_of g square p s ≤ never
cost_most g square p s = plus_most (length s.sent) (entry square (run g p s.sent) (run g p s.received))

module _ {g : Automaton} {square : List ℕ} {p : ℕ} where
  -- none is as cheap as the bound, or there is none
  pub cheapest_above : {These : FaultStep → Type 0} {bound : ℕ} → ((s : FaultStep) → These s → bound < cost_of g square p s)
      → Cheapest g square p These bound never
  cheapest_above above = record { most = le_refl never; least = λ s i. inr (above s i); attained = λ l. absurd (omega (arith, l)) }

  pub cheapest_one : {These : FaultStep → Type 0} {bound cost : ℕ} (t : FaultStep) → These t → ((s : FaultStep) → These s → s ≡ t)
      → cost ≡ cost_of g square p t
      → Cheapest g square p These bound cost
  cheapest_one t here only e = record {
    most = rw e (cost_most g square p t);
    least = λ s i. inl (le_of_eq (e ∙ ap (cost_of g square p) (sym (only s i))));
    attained = λ l. record { step = t; of = here; costs = sym e };
  }

  -- no step costs more than never, so that the bound never says nothing
  pub cheapest_within : {These : FaultStep → Type 0} {cost : ℕ} (bound : ℕ) → Cheapest g square p These never cost → Cheapest g square p These bound cost
  cheapest_within bound x = record {
    most = x.most;
    least = λ s i. inl (⊎_elim (λ l. l) (λ l. absurd (omega (arith, l, cost_most g square p s))) (x.least s i));
    attained = x.attained;
  }

  pub cheapest_same : {These Those : FaultStep → Type 0} {bound cost : ℕ} → ((s : FaultStep) → Those s → These s) → ((s : FaultStep) → These s → Those s)
      → Cheapest g square p These bound cost
      → Cheapest g square p Those bound cost
  cheapest_same to from x = record {
    most = x.most;
    least = λ s i. x.least s (to s i);
    attained = λ l. (let r = x.attained l in record { step = r.step; of = from r.step r.of; costs = r.costs });
  }

  -- some steps are as cheap as all
  pub cheapest_enough : {Some All : FaultStep → Type 0} {cost : ℕ} → Cheapest g square p Some never cost
      → ((s : FaultStep) → All s → (t : FaultStep) × Some t × (cost_of g square p t ≤ cost_of g square p s))
      → ((s : FaultStep) → Some s → All s) → Cheapest g square p All never cost
  cheapest_enough x as-cheap of = record {
    most = x.most;
    least = λ s i.
        let t = as-cheap s i in
        inl (⊎_elim (λ l. le_trans l t.2) (λ l. absurd (omega (arith, l, cost_most g square p t.0))) (x.least t.0 t.1));
    attained = λ l. (let r = x.attained l in record { step = r.step; of = of r.step r.of; costs = r.costs });
  }

  -- ---- those of 0, 1, .. i - 1, and then those of i, within what is left of the bound

  module _ {These : ℕ → FaultStep → Type 0} {bound : ℕ} where
    pub upto_goes_on : {i a b c : ℕ} → Cheapest g square p (Upto These i) bound a → Cheapest g square p (These i) (min bound a) b → c ≡ min b a
        → Cheapest g square p (Upto These (i + 1)) bound c
    upto_goes_on {i} {a} {b} {c} x y e = rw e (record {
      most = omega (arith, x.most);
      least = λ s h.
          ⊎_elim
          (λ (l : h.0 < i). ⊎_elim (λ m. inl (omega (arith, m))) (λ m. inr m) (x.least s (h.0, l, h.2)))
          (λ (l : i ≤ h.0).
          let z : h.0 ≡ i = omega (arith, l, h.1) in
          ⊎_elim (λ m. inl (omega (arith, m))) (later s) (y.least s (subst (λ (j : ℕ). These j s) z h.2)))
          (lt_or_le h.0 i);
      attained = λ l. ⊎_elim (there l) (here l) (lt_or_le b a);
    })
      where
        later : (s : FaultStep) → min bound a < cost_of g square p s → (min b a ≤ cost_of g square p s) ⊎ (bound < cost_of g square p s)
        later s l = ⊎_elim (λ m. inr m) (λ m. inl (omega (arith, l, m))) (lt_or_le bound (cost_of g square p s))

        there : min b a < never → b < a → Attained g square p (Upto These (i + 1)) (min b a)
        there l h = (let m : b ≡ min b a = omega (arith, h) in let r = y.attained (omega (arith, l, h)) in
            record { step = r.step; of = (i, omega arith, r.of); costs = r.costs ∙ m })

        here : min b a < never → a ≤ b → Attained g square p (Upto These (i + 1)) (min b a)
        here l h =
            let m : a ≡ min b a = omega (arith, h) in
            let r = x.attained (omega (arith, l, h)) in
            record { step = r.step; of = (r.of.0, omega (arith, r.of.1), r.of.2); costs = r.costs ∙ m }

    -- those of i are all above it, or there is none
    pub upto_passes : {i a : ℕ} → Cheapest g square p (Upto These i) bound a → ((s : FaultStep) → These i s → min bound a < cost_of g square p s)
        → Cheapest g square p (Upto These (i + 1)) bound a
    upto_passes x above = upto_goes_on x (cheapest_above above) (omega (arith, x.most))

    pub upto_ends : {i n c : ℕ} → Cheapest g square p (Upto These i) bound c → i ≤ n → n ≤ i → Cheapest g square p (Upto These n) bound c
    upto_ends {c = c} x h l = subst (λ (j : ℕ). Cheapest g square p (Upto These j) bound c) (le_antisymm h l) x
