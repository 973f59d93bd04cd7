-- `end_row` meets its contract.
use mathlib.Core.Path.{refl, ◌∙◌}
use native.Mathlib.Omega.{arith}
use Rattle.theory.specs.Monitor.{state_limit}
use Rattle.state_set.proofs.Sets.{set_put}
use Rattle.rows.proofs.Visit.{empty_none, empty_some}
use Rattle.pass.proofs.First.{row_quiet, row_fresh}
use Rattle.pass.proofs.end_row.Goals as goal

pub returns-then-is_empty-clause-done : goal.returns-then-is_empty-clause-done
returns-then-is_empty-clause-done c = λ n all.
    row_quiet n _ c.requires (λ q. refl)
    (λ q. c.without.ensures q ∙ rw (c.minus.ensures q, all q)) (set_put _ c.args.p _ (omega (arith, c.requires)))
    (empty_none state_limit _ c.is_empty.ensures c.if-is_empty.true)

pub returns-clause-done : goal.returns-clause-done
returns-clause-done c = λ n all.
    row_fresh n _ c.requires (λ q. refl)
    (λ q. c.without.ensures q ∙ rw (c.minus.ensures q, all q)) (set_put _ c.args.p _ (omega (arith, c.requires)))
    (empty_some state_limit _ c.is_empty.ensures c.if-is_empty.false) c.with-fresh.ensures
