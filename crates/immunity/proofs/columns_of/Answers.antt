-- `columns_of` meets its contract: the columns of the kinds passed are filled.
use Rattle.faults.proofs.ByKind.{listed_rank}
use Rattle.witness.specs.Search.{monitor_in}
use Rattle.immunity.proofs.Columns.{filled_none, filled_more}
use Rattle.immunity.proofs.columns_of.Goals as goal

pub loop-kind-init : goal.loop-kind-init
loop-kind-init c = filled_none (monitor_in c.args.search.now)

pub loop-kind-preserved : goal.loop-kind-preserved
loop-kind-preserved c =
    let at = c.loop-kind in
    let rank = listed_rank at.kind-index _ c.loop-kind-test.true in
    rw c.rank.ensures (filled_more c.column_of.result at.invariant c.loop-kind-test.true rank c.column_of.ensures)
