-- `settle` meets its contract: marks are settled where they stand, and no state passed takes one.
use Rattle.std.proofs.Common.{ap, ◌∙◌, List, ◌++◌, ◌≤◌, length, arith}
use Rattle.monitor.specs.Format.{settled_marks}
use Rattle.opening.proofs.Settling.{copied_size, copied_rest, going_first, going_on, going_again, going_less, going_last}
use Rattle.opening.proofs.settle.Goals.{At-loop-q}
use Rattle.opening.proofs.settle.Goals as goal

-- the area is as long as it was
room : (c : At-loop-q) → c.args.graph.now.states ≤ length c.loop-q.area
room c =
    let table = c.requires.0.1 in
    omega (arith, c.requires.1, copied_size table c.args.area.now c.requires.1 c.copy.ensures, (c.loop-q.invariant _ table).size)

pub loop-q-init : goal.loop-q-init
loop-q-init c = λ s table. going_first table c.args.area.now c.requires.1 c.copy.ensures

pub loop-q-preserved-then-mark-eq0 : goal.loop-q-preserved-then-mark-eq0
loop-q-preserved-then-mark-eq0 c = λ s table.
    going_on table (c.loop-q.invariant s table) c.loop-q-test.true c.new_mark-mark.ensures c.if-mark-eq0.true

pub loop-q-smaller : goal.loop-q-smaller
loop-q-smaller c =
    let table = c.requires.0.1 in
    let x = c.loop-q.invariant _ table in
    going_less table x c.loop-q-test.true c.new_mark-mark.ensures c.if-mark-eq0.false
    (omega (arith, room (goal.at.loop-q-smaller c).At-loop-q, x.size))

pub loop-q-preserved : goal.loop-q-preserved
loop-q-preserved c = λ s table.
    (let x = c.loop-q.invariant s table in
    going_again table x c.loop-q-test.true c.new_mark-mark.ensures c.if-mark-eq0.false
    (omega (arith, room (goal.at.loop-q-preserved c).At-loop-q, x.size)))

pub returns : goal.returns
returns c =
    let a = c.args in
    let table = c.requires.0.1 in
    let x = c.loop-q.invariant _ table in
    going_last table x c.loop-q-test.false (omega (arith, room (goal.at.returns c).At-loop-q, x.size))
    ∙ ap (λ (rest : List _). settled_marks a.graph.now.states a.graph.now.symbols a.drawn.now a.graph.now.nexts.now ++ rest)
    (copied_rest table a.area.now c.requires.1 c.copy.ensures)
