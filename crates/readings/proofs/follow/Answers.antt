-- `follow`: from the state held and the symbols not yet read on it goes as from the beginning.
use Rattle.std.proofs.Common.{arith}
use Rattle.monitor.proofs.Body.{all_below}
use Rattle.readings.proofs.Following.{onward_turn, onward_stops, onward_ends}
use Rattle.readings.proofs.follow.Goals as goal

pub bounds-marks-q : goal.bounds-marks-q
bounds-marks-q c = rw (c.marks-marks.ensures, c.args.table.now.sound.marks_length) c.loop-i.invariant.inside

pub returns-then-marks-q-ne0 : goal.returns-then-marks-q-ne0
returns-then-marks-q-ne0 c = onward_stops c.loop-i.invariant (rw c.marks-marks.ensures at c.if-marks-q-ne0.true)

pub successor-q-requires : goal.successor-q-requires
successor-q-requires c = (c.loop-i.invariant.inside, all_below c.args.table.now.graph.symbols c.args.symbols.now c.requires.1 c.loop-i.i c.loop-i-test.true)

pub loop-i-preserved : goal.loop-i-preserved
loop-i-preserved c =
    let next = c.successor-q.ensures in
    onward_turn c.loop-i.invariant c.loop-i-test.true (rw c.marks-marks.ensures at c.if-marks-q-ne0.false) next.next next.inside

pub returns : goal.returns
returns c = onward_ends c.loop-i.invariant (omega arith)
