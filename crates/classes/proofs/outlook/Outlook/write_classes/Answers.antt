-- `write_classes`: the area holds the classes of the states passed, and then what it held before.
use Rattle.std.proofs.Common.{refl, ◌∙◌, ap₂, ℕ, List, arith}
use lib.ListN.{set}
use Rattle.theory.specs.Below.{values}
use Rattle.theory.specs.Monitor.{class}
use Rattle.theory.proofs.Values.{filled_turn}
use Rattle.monitor.specs.Tables.{monitor_of_table}
use Rattle.classes.proofs.outlook.Outlook.write_classes.Goals as goal

pub loop-q-init : goal.loop-q-init
unfolding values
loop-q-init c = refl

pub loop-q-preserved : goal.loop-q-preserved
loop-q-preserved c =
    let at = c.loop-q in
    ap₂ (λ (l : List ℕ) (v : ℕ). set l at.q v) at.invariant (c.number.ensures ∙ c.class_of.ensures)
    ∙ filled_turn (class (monitor_of_table c.args.self.now.table.now)) c.args.area.now at.q (omega (arith, c.loop-q-test.true, c.requires))
