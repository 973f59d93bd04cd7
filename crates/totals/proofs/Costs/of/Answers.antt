-- `of` meets its contract: the costs of the states passed, and the least total so far.
use native.Mathlib.Omega.{arith}
use Rattle.monitor.specs.Graph.{automaton}
use Rattle.layers.proofs.Queue.{queue_few}
use Rattle.totals.proofs.Costed.{costed_goes_on}
use Rattle.totals.proofs.Costs.of.Goals as goal

pub bounds-layers-visited : goal.bounds-layers-visited
bounds-layers-visited c =
    let few = c.args.distances.now.graph.now.rows.states_most in
    omega (arith, queue_few few c.requires.0, few, c.loop-visited-test.true)

pub loop-visited-preserved : goal.loop-visited-preserved
loop-visited-preserved c =
    let distances = c.args.distances.now in
    let graph = distances.graph.now in
    costed_goes_on (automaton graph) distances.square.now c.args.set.bits graph.rows.states_most c.requires.0 c.loop-visited-test.true
    c.from-p.ensures c.from-depth.ensures c.loop-visited.invariant (omega (arith, c.if-total-depth.false)) c.cost_within-cost.ensures c.least_of-total.ensures
