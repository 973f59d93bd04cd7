-- `Outlook::of`: the states from which a state with a mark is reached are those from which some trace leads there.
use Rattle.monitor.proofs.Rows.{next_of_rows}
use Rattle.reach.proofs.Exactly.{reaching_is}
use Rattle.classes.proofs.Tables.{lent_marked}
use Rattle.classes.proofs.outlook.Outlook.of.Goals as goal

pub invariant_of-result : goal.invariant_of-result
invariant_of-result c =
    let t = c.args.table.now in
    let g = next_of_rows t.graph.rows in
    let sources = c.reaching-sources.ensures in
    record {
      truth_at = reaching_is g (lent_marked _ c.marks.ensures t.sound.marks_length c.states_marked-marked_true.ensures) sources.one;
      falsity_at = reaching_is g (lent_marked _ c.marks-2.ensures t.sound.marks_length c.states_marked-marked_false.ensures) sources.other;
    }
