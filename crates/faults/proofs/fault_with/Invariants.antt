-- `fault_with` meets its contract: no step before those that are left costs this, and some step does.
use mathlib.Core.Path.{◌≡◌}
use Rattle.monitor.specs.Graph.{automaton}
use Rattle.faults.specs.Yields.{rest}
use Rattle.faults.proofs.Found.{Seeking}
use Rattle.faults.proofs.fault_with.Given as goal

abbrev pub invariant-loop-fault : goal.invariant-loop-fault
invariant-loop-fault l =
    (l.fault-iterator.symbols ≡ l.fn.distances.graph.now.symbols)
    × Seeking (automaton l.fn.distances.graph.now) l.fn.distances.square.now l.p l.cost l.fn.set.bits (rest l.fault-iterator)
