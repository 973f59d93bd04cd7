-- `write_apart` meets its contract: at each turn the part written and the part to come give the path.
use Prim.Native.Nat.{◌-◌}
use Rattle.monitor.specs.Graph.{automaton}
use Rattle.square.proofs.Walk.{Walk}
use Rattle.square.proofs.Distances.write_apart.Given as goal

abbrev pub invariant-loop-i : goal.invariant-loop-i
invariant-loop-i l =
    Walk (automaton l.self.graph.now) l.self.square.now l.p l.q l.initial.area l.at l.area l.x l.y l.i (l.distance - l.i)
