-- `open_table` meets its contract: what opening hands out is a table, and stands for the monitor of the body.
use Rattle.std.proofs.Common.{◌∙◌, rules}
use Rattle.theory.specs.Monitor.{state_limit}
use Rattle.basics.proofs.Refusals.{handed_back}
use Rattle.opening.proofs.Handing.{Accepts, opened_no, opened_yes, opened_monitor}
use Rattle.opening.proofs.open_table.Goals.{In_ok-shape}
use Rattle.opening.proofs.open_table.Goals as goal

-- what is known of the shape and the marks handed out
handed : (c : In_ok-shape) → Accepts state_limit c.args.body.now c.in_ok-shape.shape c.open.new.area
handed c = opened_yes state_limit c.args.body.now _ c.open.ensures _ (search rules)

pub returns-in_err-shape : goal.returns-in_err-shape
returns-in_err-shape c =
    handed_back _ c.from_residual.result _ c.from_residual.ensures.1
    ∙ opened_no state_limit c.args.body.now _ c.open.ensures _ (search rules)

pub invariant_of-graph : goal.invariant_of-graph
invariant_of-graph c = rw c.next_states.ensures (record { rows = (handed (goal.at.invariant_of-graph c).In_ok-shape).table.rows })

pub invariant_of-result : goal.invariant_of-result
invariant_of-result c = rw c.next_states.ensures (record { sound = (handed (goal.at.invariant_of-result c).In_ok-shape).table })

pub returns : goal.returns
returns c = rw c.next_states.ensures (opened_monitor (handed (goal.at.returns c).In_ok-shape))
