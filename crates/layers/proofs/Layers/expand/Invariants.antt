-- `expand` meets its contract: the successors by the symbols passed are entered.
use Rattle.theory.specs.Monitor.{state_limit}
use Rattle.monitor.specs.Graph.{automaton}
use Rattle.layers.proofs.Queue.{Expanding}
use Rattle.layers.proofs.Layers.expand.Given as goal

abbrev pub invariant-loop-a : goal.invariant-loop-a
invariant-loop-a l =
    let old = l.initial.self in
    Expanding state_limit (automaton l.graph) l.depth l.p old.count l.self.count l.a old.order l.self.order old.depths l.self.depths
