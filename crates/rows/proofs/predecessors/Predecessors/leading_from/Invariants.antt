-- `leading_from` meets its contract: what was gathered, and what leads into the states that are left, make the whole.
use Rattle.state_set.specs.Member.{is_part, in_part}
use Rattle.monitor.specs.Graph.{automaton}
use Rattle.rows.specs.Sets.{Within}
use Rattle.rows.proofs.Gather.{Gathering}
use Rattle.rows.proofs.predecessors.Predecessors.leading_from.Given as goal

abbrev pub invariant-loop-y : goal.invariant-loop-y
invariant-loop-y l =
    Within l.self.graph.states (in_part l.y-iterator.part l.y-iterator.left)
    × Gathering (automaton l.self.graph) l.a (is_part l.w) (in_part l.u l.word) (in_part l.w l.into) (in_part l.y-iterator.part l.y-iterator.left)
