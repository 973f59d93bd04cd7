-- `next` meets its contract: the step at the cursor, and then those from the next one on.
use mathlib.Core.Path.{◌≡◌, refl, sym, ap, ◌∙◌}
use mathlib.Core.List.{[], ◌∷◌}
use borrow.Author.Rules.{rules}
use lib.ListN.{length}
use Rattle.theory.specs.Faults.{FaultStep}
use Rattle.faults.specs.Rest.{left}
use Rattle.faults.specs.Steps.{step_for}
use Rattle.faults.specs.Yields.{rest}
use Rattle.faults.proofs.steps.StepsIterator.next.Goals.{After-step}
use Rattle.faults.proofs.steps.StepsIterator.next.Goals as goal

pub returns-in_err-at-clause-steps : goal.returns-in_err-at-clause-steps
unfolding rest
returns-in_err-at-clause-steps c =
    let old = c.args.self.now in
    let none : rest old ≡ [] = ap (left old.set.bits old.symbols) (c.in_err-at.was) in
    rw c.from_residual.ensures (none, none)

pub next-self-requires : goal.next-self-requires
next-self-requires c = c.args.self.now.placed _ (c.in_ok-at.was)

given : (c : After-step)
    → (let old = c.args.self.now in
    rest old ≡ step_for c.step.result ∷ left old.set.bits old.symbols c.next-self.result)
unfolding rest
given c =
    let old = c.args.self.now in
    ap (left old.set.bits old.symbols) (c.in_ok-at.was) ∙ c.next-self.ensures.rest
    ∙ ap (λ (s : FaultStep). s ∷ left old.set.bits old.symbols c.next-self.result) (sym c.step.ensures.step)

pub returns-clause-steps : goal.returns-clause-steps
unfolding rest
returns-clause-steps c =
    (given (goal.at.returns-clause-steps c).After-step, c.step.ensures.ranged _ (c.args.self.now.placed _ (c.in_ok-at.was)), refl)

pub returns-clause-goes : goal.returns-clause-goes
unfolding rest
returns-clause-goes c = (let shorter = ap length (given (goal.at.returns-clause-goes c).After-step) in search rules)
