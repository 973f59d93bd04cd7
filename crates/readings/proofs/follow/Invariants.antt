-- `follow`: from the state held and the symbols not yet read on it goes as from the beginning.
use Rattle.monitor.specs.Tables.{monitor_of_table}
use Rattle.readings.proofs.Following.{Onward}
use Rattle.readings.proofs.follow.Given as goal

abbrev pub invariant-loop-i : goal.invariant-loop-i
invariant-loop-i l = Onward (monitor_of_table l.table) l.from l.symbols l.q l.i
