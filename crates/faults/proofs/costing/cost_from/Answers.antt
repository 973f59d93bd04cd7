-- `cost_from` meets its contract: the least cost of the seconds passed.
use mathlib.Core.Path.{refl, ap, ◌∙◌}
use Prim.Native.Nat.{◌<◌}
use native.Mathlib.Omega.{arith}
use Rattle.theory.specs.Faults.{step_of, seconds}
use Rattle.monitor.specs.Graph.{automaton}
use Rattle.faults.specs.Kinds.{rank_of}
use Rattle.faults.specs.Steps.{cost_of}
use Rattle.faults.proofs.ByKind.{second_in}
use Rattle.faults.proofs.Cheapest.{cheapest_one, upto_goes_on}
use Rattle.faults.proofs.costing.cost_from.Goals as goal

pub cost_of-requires-clause-ranged : goal.cost_of-requires-clause-ranged
cost_of-requires-clause-ranged c =
    let rank = rank_of c.args.kind in
    let k = c.args.distances.now.graph.now.symbols in
    let l : c.loop-second.second < seconds rank k = omega (arith, c.loop-second-test.true, c.seconds_of-second-end.ensures) in
    c.fault_of-fault.ensures.ranged _ c.requires.first_lt_k (second_in rank c.requires.first_lt_k l)

pub loop-second-preserved : goal.loop-second-preserved
loop-second-preserved c =
    let distances = c.args.distances.now in
    let at = c.loop-second in
    let e = c.cost_of.ensures ∙ ap (cost_of (automaton distances.graph.now) distances.square.now c.args.p) c.fault_of-fault.ensures.step in
    upto_goes_on at.invariant
    (cheapest_one (step_of (rank_of c.args.kind) c.args.first at.second) (at.auto.second, refl) (λ s h. h.1) e) c.least_of-least.ensures
