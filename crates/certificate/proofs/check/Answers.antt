-- `check` meets its contract: a body that is not opened is refused, and one that is, answers by its table.
use Rattle.std.proofs.Common.{refl, ◌∙◌}
use Rattle.std.specs.Prelude.{Ok, Err}
use Rattle.theory.specs.Monitor.{state_limit}
use Rattle.basics.proofs.Refusals.{handed_back}
use Rattle.monitor.specs.Format.{monitor_of}
use Rattle.monitor.specs.Questions.{no_values}
use Rattle.opening.proofs.Handing.{no_asks, table_asks}
use Rattle.certificate.specs.Questions.{certificate_questions, certificate_answer}
use Rattle.certificate.proofs.check.Goals as goal

pub returns-in_err-table : goal.returns-in_err-table
unfolding certificate_answer
returns-in_err-table c =
    let a = c.args in
    let x = c.in_err-table.field-0.0 in
    handed_back _ c.from_residual.result _ c.from_residual.ensures.1
    ∙ no_asks state_limit a.body.now (Err x) c.in_err-table.ensures x refl
    (certificate_questions a.set a.domain a.numbers.now (monitor_of a.body.now)) no_values

pub returns : goal.returns
unfolding certificate_answer
returns c =
    let a = c.args in
    let t = c.in_ok-table.table in
    c.check_table.ensures
    ∙ table_asks state_limit a.body.now (Ok t) c.in_ok-table.ensures t refl (certificate_questions a.set a.domain a.numbers.now) (λ m. no_values)
