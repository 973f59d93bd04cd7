-- `of` meets its contract: the costs of the states passed, and the least total so far.
use Rattle.theory.specs.Monitor.{state_limit}
use Rattle.monitor.specs.Graph.{automaton}
use Rattle.faults.specs.Looks.{OfSet}
use Rattle.totals.specs.Totals.{Costed}
use Rattle.totals.proofs.Costs.of.Given as goal

abbrev pub invariant-loop-visited : goal.invariant-loop-visited
invariant-loop-visited l =
    let graph = l.distances.graph.now in
    Costed state_limit (automaton graph) l.distances.square.now (OfSet l.set.bits graph.symbols)
    l.layers.order l.layers.depths l.visited l.costs l.total
