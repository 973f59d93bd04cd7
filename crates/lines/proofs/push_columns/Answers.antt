-- `push_columns` meets its contract: with each column the text is that of one column more.
use Rattle.std.proofs.Common.{arith, rules, get_or, None}
use lib.Seq.{take-suc}
use Rattle.lines.proofs.Columns.{column_put}
use Rattle.lines.proofs.push_columns.Goals as goal

pub loop-column-preserved : goal.loop-column-preserved
loop-column-preserved g c =
    let at = c.loop-column in
    let pushed = c.push_distance.ensures in (
      column_put c.args.text.now c.args.columns.now at.column-index (get_or c.args.columns.now at.column-index None) at.invariant.0
          pushed.distance (take-suc c.args.columns.now at.column-index None (search rules)),
      omega (arith, pushed.short, at.invariant.1),
    )
