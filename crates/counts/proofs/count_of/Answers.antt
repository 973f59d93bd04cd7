-- `count_of` meets its contract.
use Rattle.monitor.specs.Tables.{monitor_of_table}
use Rattle.readings.proofs.Following.{followed_whole}
use Rattle.counts.proofs.count_of.Goals as goal

pub returns : goal.returns
returns c = followed_whole (monitor_of_table c.args.table.now) c.follow-end.ensures (rw c.marks.ensures at c.count_at.ensures)
