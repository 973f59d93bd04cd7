-- `cost_within` meets its contract: kind by kind.
use Rattle.faults.proofs.Cheapest.{cheapest_same}
use Rattle.faults.proofs.Looks.{held_set, set_held}
use Rattle.faults.proofs.cost_within.Goals as goal

pub returns : goal.returns
returns c =
    let k = c.args.distances.now.graph.now.symbols in
    cheapest_same (set_held c.args.set.bits k) (held_set c.args.set.bits k) c.least_with.ensures
