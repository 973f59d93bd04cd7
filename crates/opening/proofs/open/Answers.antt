-- `open` meets its contract: each return has its law in Handing.
use Rattle.std.proofs.Common.{sym, refl}
use Rattle.theory.specs.Monitor.{state_limit}
use Rattle.basics.proofs.Refusals.{handed_back}
use Rattle.monitor.proofs.Accepted.{accepted_drawn}
use Rattle.opening.proofs.Handing.{opens_not, drawn_table, opens_table}
use Rattle.opening.proofs.open.Goals as goal

pub returns-in_err-judge : goal.returns-in_err-judge
returns-in_err-judge c =
    opens_not state_limit c.args.body.now _ c.in_err-judge.ensures c.args.area.now c.from_residual.result
    (handed_back _ c.from_residual.result _ c.from_residual.ensures.1)

pub invariant_of-graph : goal.invariant_of-graph
invariant_of-graph c =
    let table = accepted_drawn state_limit c.args.body.now (sym c.in_ok-judge.ensures) in
    rw (c.byte_at.ensures.value, c.byte_at-2.ensures.value, c.next_states.ensures) (record { rows = table.rows })

pub settle-requires : goal.settle-requires
settle-requires c =
    let table = drawn_table state_limit c.args.body.now (sym c.in_ok-judge.ensures) c.byte_at.ensures.value c.byte_at-2.ensures.value refl
    c.drawn_marks.ensures c.next_states.ensures in
    ((_, table), rw c.requires table.rows.states_most)

pub returns : goal.returns
returns c =
    opens_table state_limit c.args.body.now (sym c.in_ok-judge.ensures) c.byte_at.ensures.value c.byte_at-2.ensures.value c.byte_at-3.ensures.value
    c.drawn_marks.ensures c.next_states.ensures _ c.settle.ensures
