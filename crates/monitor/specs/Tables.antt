-- What a table that is handed on stands for.
use Rattle.std.specs.Prelude.{List, ℕ, take}
use Rattle.theory.specs.Monitor.{Monitor}
use Rattle.monitor.specs.Format.{table_of}
use Rattle.monitor.specs.declared.table.Table.{Table}

-- the marks of its states: as many as there are states, from the first place of the array on
abbrev pub marks_of : Table → List ℕ
marks_of t = take t.graph.states t.marks

-- the monitor with these marks
abbrev pub monitor_of_table : Table → Monitor
monitor_of_table t = table_of t.graph.states t.graph.symbols t.start (marks_of t) t.graph.nexts.now
