-- `cost_of_kind` meets its contract: the least cost of the first symbols passed, and those looked at are enough.
use native.Mathlib.Omega.{arith}
use Rattle.monitor.specs.Graph.{automaton}
use Rattle.monitor.proofs.Rows.{next_of_rows}
use Rattle.faults.specs.Kinds.{rank_of}
use Rattle.faults.proofs.Cheapest.{cheapest_within, cheapest_enough, upto_goes_on, upto_ends}
use Rattle.faults.proofs.Looks.{enough, looked_kind}
use Rattle.faults.proofs.costing.Costing.cost_of_kind.Goals as goal

pub loop-first-preserved : goal.loop-first-preserved
loop-first-preserved c =
    upto_goes_on c.loop-first.invariant (cheapest_within _ (rw c.second_from-from.ensures at c.cost_from.ensures)) c.least_of-least.ensures

pub returns : goal.returns
returns c =
    let self = c.args.self.now in
    let graph = self.distances.graph.now in
    let rank = rank_of c.args.kind in
    cheapest_enough (upto_ends c.loop-first.invariant (omega arith) (omega (arith, c.loop-first-test.false, c.firsts_of-first-end.ensures)))
    (enough (automaton graph) self.distances.square.now c.args.p (next_of_rows graph.rows) c.requires.p_lt_n self.test rank
    self.suited) (looked_kind self.test rank graph.symbols)
