-- `expand` meets its contract: the successors by the symbols passed are entered.
use mathlib.Core.Path.{refl}
use Prim.Native.Nat.{◌<◌}
use native.Mathlib.Omega.{arith}
use Rattle.monitor.specs.Graph.{automaton}
use Rattle.monitor.proofs.Rows.{next_of_rows}
use Rattle.layers.proofs.Queue.{expanding_old, expanding_room, expanding_new}
use Rattle.layers.proofs.Layers.expand.Goals.{Then-is_new, then-is_new, else-is_new}
use Rattle.layers.proofs.Layers.expand.Goals as goal

-- there is room for one more
room : (c : Then-is_new) → c.loop-a.self.count < c.args.graph.now.states
room c =
    let pre = c.requires in
    let rows = c.args.graph.now.rows in
    expanding_room (automaton c.args.graph.now) rows.states_most pre.0 pre.1 pre.2 refl pre.3 (next_of_rows rows)
    c.loop-a.invariant c.loop-a-test.true c.successor-x.ensures.next c.if-is_new.true

pub bounds-self-self : goal.bounds-self-self
bounds-self-self c = omega (arith, room (goal.at.bounds-self-self c).Then-is_new)

pub overflow_add-self : goal.overflow_add-self
overflow_add-self c = omega (arith, room (goal.at.overflow_add-self c).Then-is_new)

pub loop-a-preserved : goal.loop-a-preserved
loop-a-preserved c =
    let pre = c.requires in
    let g = automaton c.args.graph.now in
    let at = c.loop-a in
    let l = c.loop-a-test.true in
    let x = c.successor-x.ensures.next in
    let few = c.args.graph.now.rows.states_most in
    let closed = next_of_rows c.args.graph.now.rows in
    elim c.if-is_new.branch [
      | then-is_new w ↦ rw w.self-is (expanding_new g few pre.0 pre.1 pre.2 refl pre.3 closed at.invariant l x w.if-is_new.true)
      | else-is_new w ↦ rw w.self-is (expanding_old g few pre.0 pre.1 pre.2 refl pre.3 closed at.invariant l x w.if-is_new.false)
    ]
