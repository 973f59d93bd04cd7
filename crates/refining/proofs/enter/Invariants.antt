-- `enter` meets its contract: after r rounds every pair has had r, and when no block is new all are done.
use Prim.Native.Nat.{◌-◌, ◌+◌, ◌≤◌, ◌<◌}
use Rattle.state_set.specs.Member.{member}
use Rattle.monitor.specs.Graph.{automaton}
use Rattle.square.specs.declared.Test.TheVariants.{Differ}
use Rattle.square.specs.Square.{HasRows, passing}
use Rattle.partition.specs.Blocks.{Partition}
use Rattle.refining.specs.Refined.{Alone, Refined}
use Rattle.refining.proofs.enter.Given as goal

abbrev pub invariant-loop-old : goal.invariant-loop-old
invariant-loop-old l =
    (l.r < l.old) × (l.old ≤ l.predecessors.graph.states + 1) × HasRows l.predecessors.graph.states l.square × Partition l.predecessors.graph.states l.square l.blocks × Alone l.predecessors.graph.states (member l.alone) l.blocks
    × Refined (automaton l.predecessors.graph) (passing Differ l.outputs) l.r l.old l.square l.blocks

abbrev pub decreases-loop-old : goal.decreases-loop-old
decreases-loop-old l = l.predecessors.graph.states + 1 - l.old
