-- `classify_table` answers the monitorability and the number of states reached.
use Rattle.std.proofs.Common.{ap, ap₂, ◌∙◌, ℕ, [], ◌∷◌}
use borrow.Author.Tests.{le-leb}
use Rattle.theory.specs.Answer.{answered}
use Rattle.theory.specs.Monitor.{monitorability}
use Rattle.monitor.specs.Tables.{monitor_of_table}
use Rattle.monitor.specs.declared.table.Table.{Table}
use Rattle.classes.proofs.Tables.{reached_is}
use Rattle.classes.proofs.classify_table.Goals as goal

pub returns-clause-figures : goal.returns-clause-figures
returns-clause-figures c =
    let t = c.args.table.now in
    let found = c.monitorability.ensures ∙ ap (λ (t : Table). monitorability (monitor_of_table t)) c.of-outlook.ensures in
    rw (le-leb _ _ c.if-area-table.false)
    (ap₂ (λ (a b : ℕ). answered (a ∷ b ∷ [])) found (c.count.ensures ∙ reached_is t.sound c.reachable-reached.ensures))
