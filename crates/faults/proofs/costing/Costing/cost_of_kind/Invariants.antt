-- `cost_of_kind` meets its contract: the least cost of the first symbols passed, and those looked at are enough.
use Rattle.monitor.specs.Graph.{automaton}
use Rattle.square.specs.Square.{never}
use Rattle.faults.specs.Kinds.{rank_of}
use Rattle.faults.specs.Steps.{Cheapest}
use Rattle.faults.specs.Looks.{Upto, OfFirst, second_from}
use Rattle.faults.proofs.costing.Costing.cost_of_kind.Given as goal

abbrev pub invariant-loop-first : goal.invariant-loop-first
invariant-loop-first l =
    let graph = l.self.distances.graph.now in
    let rank = rank_of l.kind in
    Cheapest (automaton graph) l.self.distances.square.now l.p
    (Upto (λ a. OfFirst rank graph.symbols a (second_from l.self.test rank a)) l.first) never l.least
