-- `leading` meets its contract: what was gathered, and what leads into the states that are left, make the whole.
use mathlib.Core.Bool.{true}
use Rattle.monitor.specs.Graph.{automaton}
use Rattle.state_set.specs.Member.{member}
use Rattle.rows.specs.Sets.{Within}
use Rattle.rows.proofs.Gather.{Gathering}
use Rattle.refining.proofs.leading.Given as goal

abbrev pub invariant-loop-y : goal.invariant-loop-y
invariant-loop-y l =
    Within l.predecessors.graph.states (member l.y-iterator.left)
    × Gathering (automaton l.predecessors.graph) l.a (λ q. true) (member l.fn.set) (member l.into) (member l.y-iterator.left)
