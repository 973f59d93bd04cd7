-- `step_table` meets its contract: the first no, or the step.
use Rattle.std.proofs.Common.{ap₂, ℕ, [], ◌∷◌}
use borrow.Author.Tests.{le-leb, lt-leb, lt-ltb}
use Rattle.theory.specs.Below.{first}
use Rattle.theory.specs.Answer.{answered}
use Rattle.monitor.specs.Tables.{monitor_of_table}
use Rattle.readings.proofs.Traces.{named, reads_at}
use Rattle.readings.proofs.step_table.Goals as goal

pub returns-then-symbol-table : goal.returns-then-symbol-table
unfolding first
returns-then-symbol-table c =
    let yes = named c.in_ok-reading.reading c.args.domain c.in_ok-reading.ensures in
    rw (c.at-then-symbol-table.ensures, yes.0, lt-ltb _ _ c.if-state-table.false, le-leb _ _ c.if-symbol-table.true)

pub returns : goal.returns
unfolding first
returns c =
    let yes = named c.in_ok-reading.reading c.args.domain c.in_ok-reading.ensures in
    let to = c.successor-next.ensures.next in
    rw (yes.0, lt-ltb _ _ c.if-state-table.false, lt-leb _ _ c.if-symbol-table.false)
    (ap₂ (λ (x y : ℕ). answered (x ∷ y ∷ [])) to (rw yes.1 (reads_at (monitor_of_table c.args.table.now) _ to c.of_state.ensures)))
