-- `received_count` meets its contract: the three parts are read one after the other.
use mathlib.Core.Path.{◌≡◌, sym, ap, ◌∙◌}
use Prim.Native.Nat.{◌+◌, ◌<◌, ◌^◌}
use native.Mathlib.Omega.{arith}
use lib.ListN.{length, length-take, length-drop}
use Rattle.monitor.specs.Tables.{monitor_of_table}
use Rattle.faults.specs.Steps.{trace_of}
use Rattle.faults.proofs.AtMostTwo.{count_is}
use Rattle.readings.proofs.Following.{followed_most}
use Rattle.counts.proofs.Parts.{rest_is, delivered_is, front_passes, rest_passes, delivered_passes, parts_count}
use Rattle.counts.proofs.received_count.Goals.{After-follow-three, After-part}
use Rattle.counts.proofs.received_count.Goals as goal

-- what the fault delivers, behind the symbols that stand before it
delivered : (c : After-part)
    → c.part-delivered.result.now
    ≡ trace_of c.args.fault.received
delivered c =
    delivered_is c.args.fault.received c.requires.ranged.received_in.count_most
    c.write_symbols.ensures
    c.part-delivered.ensures

-- the symbols read are at most two more than the sent ones, so that their number fits
few : (c : After-follow-three) → c.part-delivered.result.now ≡ trace_of c.args.fault.received
    → c.follow-one.result.read + c.follow-two.result.read + c.follow-three.result.read < 2 ^ 64
few c delivered =
    let a = c.args in
    let m = monitor_of_table a.table.now in
    let w = a.trace.now in
    let at = a.before + a.fault.sent.count in
    let one = followed_most m c.follow-one.ensures in
    let two = followed_most m c.follow-two.ensures in
    let three = followed_most m c.follow-three.ensures in
    let front = ap length c.part.ensures ∙ length-take a.before w in
    let most = c.requires.ranged.received_in.count_most in
    let struck = ap length delivered ∙ sym (count_is a.fault.received most) in
    let rest = ap length (rest_is w at c.part-rest.ensures) ∙ length-drop at w in
    let within = c.requires.within in
    omega (arith, one, two, three, front, struck, rest, most, within)

pub follow-one-requires : goal.follow-one-requires
follow-one-requires c =
    let g = (monitor_of_table c.args.table.now).automaton in
    (c.args.table.now.sound.well_formed.start_in, rw c.part.ensures (front_passes g c.args.trace.now c.args.before c.requires.trace))

pub follow-two-requires : goal.follow-two-requires
follow-two-requires c =
    let g = (monitor_of_table c.args.table.now).automaton in (
      c.follow-one.ensures.inside,
      delivered_passes g c.args.fault.received c.requires.ranged.received_in (delivered (goal.at.follow-two-requires c).After-part),
    )

pub follow-three-requires : goal.follow-three-requires
follow-three-requires c =
    let g = (monitor_of_table c.args.table.now).automaton in (
      c.follow-two.ensures.inside,
      rest_passes g c.args.trace.now (c.args.before + c.args.fault.sent.count) c.requires.trace
          c.part-rest.ensures,
    )

pub overflow_add-one : goal.overflow_add-one
overflow_add-one c = omega (arith, few (goal.at.overflow_add-one c).After-follow-three (delivered (goal.at.overflow_add-one c).After-part))

pub overflow_add-one-2 : goal.overflow_add-one-2
overflow_add-one-2 c = omega (arith, few (goal.at.overflow_add-one-2 c).After-follow-three (delivered (goal.at.overflow_add-one-2 c).After-part))

pub returns : goal.returns
returns c =
    let a = c.args in
    let m = monitor_of_table a.table.now in
    parts_count m c.follow-one.ensures c.follow-two.ensures c.follow-three.ensures (rw c.marks.ensures at c.count_at.ensures)
    ∙ rw (c.part.ensures, delivered (goal.at.returns c).After-part, rest_is a.trace.now (a.before + a.fault.sent.count) c.part-rest.ensures)
