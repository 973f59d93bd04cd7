-- `explore` meets its contract: the states before the head are expanded.
use Prim.Native.Nat.{◌<◌}
use native.Mathlib.Omega.{arith}
use Rattle.monitor.specs.Graph.{automaton}
use Rattle.monitor.proofs.Rows.{next_of_rows}
use Rattle.layers.proofs.Queue.{exploring_begins, exploring_state, exploring_found, exploring_deep, exploring_fewer, exploring_goes_on}
use Rattle.layers.proofs.Layers.explore.Goals.{In-loop-head}
use Rattle.layers.proofs.Layers.explore.Goals as goal

-- the head is a state's place
at_head : (c : In-loop-head) → c.loop-head.head < c.args.graph.now.states
at_head c = exploring_fewer (automaton c.args.graph.now) c.args.graph.now.rows.states_most c.loop-head.invariant c.loop-head-test.true

pub loop-head-init : goal.loop-head-init
loop-head-init c =
    let blank = c.blank-layers.ensures in
    exploring_begins (automaton c.args.graph.now) _ _ c.args.graph.now.rows.states_most c.requires blank.0.size blank.1.size blank.1.filled

pub bounds-layers-head : goal.bounds-layers-head
bounds-layers-head c = omega (arith, at_head (goal.at.bounds-layers-head c).In-loop-head)

pub expand-requires : goal.expand-requires
expand-requires c =
    let g = automaton c.args.graph.now in
    let few = c.args.graph.now.rows.states_most in
    let inv = c.loop-head.invariant in
    let l = c.loop-head-test.true in
    let p = c.from-p.ensures in
    (exploring_state g few inv l p, inv.queue, exploring_found g few inv l p, exploring_deep g few inv l p)

pub overflow_add-head : goal.overflow_add-head
overflow_add-head c = omega (arith, at_head (goal.at.overflow_add-head c).In-loop-head)

pub loop-head-smaller : goal.loop-head-smaller
loop-head-smaller c = omega (arith, at_head (goal.at.loop-head-smaller c).In-loop-head)

pub loop-head-preserved : goal.loop-head-preserved
loop-head-preserved c =
    let inv = c.loop-head.invariant in
    let e = c.expand.ensures in
    let rows = c.args.graph.now.rows in
    exploring_goes_on (automaton c.args.graph.now) rows.states_most inv
    c.loop-head-test.true c.from-p.ensures (next_of_rows rows) c.requires e.grown e.onward (e.reached c.args.start inv.reached)
