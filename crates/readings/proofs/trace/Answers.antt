-- `trace` meets its contract: a body that is not opened is refused, and one that is, answers by its table.
use Rattle.std.proofs.Common.{refl, ◌∙◌}
use Rattle.std.specs.Prelude.{Ok, Err}
use Rattle.theory.specs.Monitor.{state_limit}
use Rattle.basics.proofs.Refusals.{handed_back}
use Rattle.monitor.specs.Format.{monitor_of}
use Rattle.opening.proofs.Handing.{no_asks, table_asks}
use Rattle.readings.specs.Readings.{trace_questions, trace_figures, trace_answer}
use Rattle.readings.proofs.trace.Goals as goal

pub returns-in_err-table : goal.returns-in_err-table
unfolding trace_answer
returns-in_err-table c =
    let a = c.args in
    let m = monitor_of a.body.now in
    let x = c.in_err-table.field-0.0 in
    handed_back _ c.from_residual.result _ c.from_residual.ensures.1
    ∙ no_asks state_limit a.body.now (Err x) c.in_err-table.ensures x refl (trace_questions a.domain a.symbols.now m) (trace_figures a.domain a.symbols.now m)

pub returns : goal.returns
unfolding trace_answer
returns c =
    let a = c.args in
    let t = c.in_ok-table.table in
    c.trace_table.ensures
    ∙ table_asks state_limit a.body.now (Ok t) c.in_ok-table.ensures t refl (trace_questions a.domain a.symbols.now) (trace_figures a.domain a.symbols.now)
