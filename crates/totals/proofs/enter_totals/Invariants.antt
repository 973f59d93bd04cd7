-- `enter_totals` meets its contract: of the states passed, those that lead on are entered.
use Rattle.theory.specs.Monitor.{state_limit}
use Rattle.monitor.specs.Graph.{automaton}
use Rattle.totals.specs.Totals.{OnTheWay}
use Rattle.totals.proofs.enter_totals.Given as goal

abbrev pub invariant-loop-i : goal.invariant-loop-i
invariant-loop-i l =
    OnTheWay state_limit (automaton l.graph) l.layers.order l.layers.depths l.costs.costs l.costs.total l.i l.costs.visited l.totals
