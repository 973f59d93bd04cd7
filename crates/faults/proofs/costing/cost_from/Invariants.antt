-- `cost_from` meets its contract: the least cost of the seconds passed.
use Rattle.monitor.specs.Graph.{automaton}
use Rattle.square.specs.Square.{never}
use Rattle.faults.specs.Kinds.{rank_of}
use Rattle.faults.specs.Steps.{Cheapest}
use Rattle.faults.specs.Looks.{Upto, OfSecond}
use Rattle.faults.proofs.costing.cost_from.Given as goal

abbrev pub invariant-loop-second : goal.invariant-loop-second
invariant-loop-second l =
    Cheapest (automaton l.distances.graph.now) l.distances.square.now l.p (Upto (OfSecond (rank_of l.kind) l.first l.from) l.second) never l.least
