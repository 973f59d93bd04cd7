-- `explore` meets its contract: the states before the head are expanded.
use Prim.Native.Nat.{◌-◌}
use Rattle.theory.specs.Monitor.{state_limit}
use Rattle.monitor.specs.Graph.{automaton}
use Rattle.layers.proofs.Queue.{Exploring}
use Rattle.layers.proofs.Layers.explore.Given as goal

abbrev pub invariant-loop-head : goal.invariant-loop-head
invariant-loop-head l = Exploring state_limit (automaton l.graph) l.start l.layers.count l.head l.layers.order l.layers.depths

abbrev pub decreases-loop-head : goal.decreases-loop-head
decreases-loop-head l = l.graph.states - l.head
