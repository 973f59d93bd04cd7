-- What the functions below the entry point know of sets of states.
use Rattle.std.specs.Prelude.{ℕ}
use Rattle.theory.specs.Automaton.{leads}
use Rattle.state_set.specs.declared.StateSet.{StateSet}
use Rattle.state_set.specs.Member.{Exactly}
use Rattle.monitor.specs.Graph.{automaton}
use Rattle.monitor.specs.Tables.{marks_of}
use Rattle.monitor.specs.declared.table.Table.{Table}
use Rattle.opening.specs.Marks.{has_mark}

-- they are the states of a table from which one with the mark v can be reached
abbrev pub Finding : Table → ℕ → StateSet → Type 0
Finding t v s = Exactly t.graph.states (leads (automaton t.graph) (has_mark (marks_of t) v)) s
