-- `put_entries` meets its contract: the entries before this one are put.
use Rattle.std.proofs.Common.{arith, rules}
use Rattle.writer.proofs.Puts.{none_entered, one_entered}
use Rattle.writer.proofs.Entries.put_entries.Goals as goal

pub loop-i-init : goal.loop-i-init
loop-i-init c = none_entered _ _ _

pub loop-i-preserved : goal.loop-i-preserved
loop-i-preserved c = one_entered c.loop-i.invariant (omega arith) (search rules) c.put_entry.ensures
