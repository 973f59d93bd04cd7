-- `monitorability_of` meets its contract: where as many states as there are find a verdict, none is ugly.
use Rattle.std.proofs.Common.{sym, ap, ◌∙◌}
use Rattle.theory.specs.Monitor.{class, monitorability}
use Rattle.monitor.specs.Tables.{monitor_of_table}
use Rattle.monitor.specs.declared.table.Table.{Table}
use Rattle.classes.proofs.Tables.{all_open}
use Rattle.classes.proofs.monitorability_of.Goals as goal

pub returns-then-count-table : goal.returns-then-count-table
returns-then-count-table c =
    let o = c.of-outlook.result in
    let same = c.of-outlook.ensures in
    let m = monitor_of_table o.table.now in
    let full = sym c.count.ensures ∙ c.if-count-table.true ∙ sym (ap (λ (t : Table). t.graph.states) same) in
    let start = c.class_of.ensures ∙ sym (ap (λ (t : Table). class m t.start) same) in
    c.weak.ensures ∙ all_open o.table.now.sound o.truth_at o.falsity_at _ c.open.ensures full start
    ∙ ap (λ (t : Table). monitorability (monitor_of_table t)) same
