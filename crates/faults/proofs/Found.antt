-- The search for the first fault step with a cost.
use mathlib.Core.Path.{◌≡◌, sym, ap, ◌∙◌}
use mathlib.Core.List.{List, [], ◌∷◌}
use mathlib.Core.Option.{some}
use Prim.Native.Nat.{ℕ}
use borrow.Author.Tests.{eq-eqb, ne_eqb}
use Rattle.theory.specs.Lists.{find}
use Rattle.theory.specs.Automaton.{Automaton}
use Rattle.theory.specs.Faults.{FaultStep, steps}
use Rattle.theory.proofs.Below.{clash}
use Rattle.theory.proofs.Lists.{none_passes}
use Rattle.faults.specs.Steps.{cost_of, costing, Attained}
use Rattle.faults.specs.Looks.{OfSet}

-- of these fault steps the first with the cost is the first of the set
pub record Seeking (g : Automaton) (square : List ℕ) (p cost set : ℕ) (xs : List FaultStep) : Type 0 where
  pub same : find (costing g square p cost) xs ≡ find (costing g square p cost) (steps set g.symbols)

module _ {g : Automaton} {square : List ℕ} {p cost set : ℕ} where
  pub seek_begins : {xs : List FaultStep} → xs ≡ steps set g.symbols → Seeking g square p cost set xs
  seek_begins e = record { same = ap (find (costing g square p cost)) e }

  -- the first of them is s, and x is its cost
  module _ {xs ys : List FaultStep} {s : FaultStep} {x : ℕ} (here : Seeking g square p cost set xs) (first : xs ≡ s ∷ ys)
      (is_cost : x ≡ cost_of g square p s) where
    pub seek_finds : x ≡ cost → find (costing g square p cost) (steps set g.symbols) ≡ some s
    unfolding find
    seek_finds e = sym here.same ∙ ap (find (costing g square p cost)) first ∙ rw (eq-eqb (cost_of g square p s) cost (sym is_cost ∙ e))

    pub seek_on : (x ≡ cost → ⊥) → Seeking g square p cost set ys
    unfolding find
    seek_on n = record {
      same = sym (ap (find (costing g square p cost)) first ∙ rw (ne_eqb (cost_of g square p s) cost (λ e. n (is_cost ∙ e)))) ∙ here.same;
    }

  -- some step has the cost, so that the end is not reached
  pub seek_ends : {xs : List FaultStep} → Seeking g square p cost set xs → xs ≡ [] → Attained g square p (OfSet set g.symbols) cost → ⊥
  unfolding find
  seek_ends here end some-step =
      clash (eq-eqb (cost_of g square p some-step.step) cost some-step.costs)
      (none_passes (costing g square p cost) (steps set g.symbols) (sym here.same ∙ ap (find (costing g square p cost)) end) some-step.step some-step.of)
