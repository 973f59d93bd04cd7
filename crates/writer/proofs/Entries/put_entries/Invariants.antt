-- `put_entries` meets its contract: the entries before this one are put.
use Rattle.writer.proofs.Puts.{Entered}
use Rattle.writer.proofs.Entries.put_entries.Given as goal

abbrev pub invariant-loop-i : goal.invariant-loop-i
invariant-loop-i l = Entered l.self.rules.now l.self.lengths.now l.initial.area l.area l.offset l.i
