-- `write_classes`: the area holds the classes of the states passed, and then what it held before.
use Rattle.std.proofs.Common.{◌≡◌}
use Rattle.theory.specs.Monitor.{class}
use Rattle.theory.proofs.Values.{filled}
use Rattle.monitor.specs.Tables.{monitor_of_table}
use Rattle.classes.proofs.outlook.Outlook.write_classes.Given as goal

abbrev pub invariant-loop-q : goal.invariant-loop-q
invariant-loop-q l = l.area ≡ filled (class (monitor_of_table l.self.table.now)) l.initial.area l.q
