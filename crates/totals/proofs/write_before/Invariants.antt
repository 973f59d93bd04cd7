-- `write_before` meets its contract: at each turn the part written and the part to come give the way.
use Prim.Native.Nat.{◌-◌}
use Rattle.monitor.specs.Graph.{automaton}
use Rattle.totals.proofs.Walk.{Walk}
use Rattle.totals.proofs.write_before.Given as goal

abbrev pub invariant-loop-count : goal.invariant-loop-count
invariant-loop-count l = Walk (automaton l.graph) l.totals l.costs.costs l.start l.initial.area l.area l.p l.count (l.total - l.count)
