-- `first_witness_in` meets its contract: a body that is not opened is refused, and one that is, answers by its table.
use mathlib.Core.Path.{refl, ◌∙◌}
use lib.ListN.{length}
use Rattle.std.specs.Prelude.{Ok, Err}
use Rattle.theory.specs.Monitor.{state_limit}
use Rattle.basics.proofs.Refusals.{handed_back}
use Rattle.monitor.specs.Format.{monitor_of}
use Rattle.opening.proofs.Handing.{no_asks, no_writes, table_writes}
use Rattle.witness.specs.Figures.{witness_trace, first_by, figures_by, witness_questions, witness_answer}
use Rattle.witness.proofs.first_witness_in.Goals as goal

pub returns-in_err-table : goal.returns-in_err-table
unfolding witness_answer
returns-in_err-table c =
    let a = c.args in
    let m = monitor_of a.body.now in
    let first = first_by a.test m a.domain a.set in
    let questions = witness_questions a.test a.set a.domain first (length a.area.now) in
    let values = figures_by a.test m a.domain a.set in
    let x = c.in_err-table.field-0.0 in
    let no = c.in_err-table.ensures in record {
      figures = handed_back _ c.from_residual.result _ c.from_residual.ensures.1 ∙ no_asks state_limit a.body.now (Err x) no x refl questions values;
      area = no_writes state_limit a.body.now (Err x) no x refl questions values (witness_trace first) a.area.now;
    }

pub returns : goal.returns
unfolding witness_answer
returns c =
    let whole = (let a = c.args in
    let t = c.in_ok-table.table in
    let e = c.ask_table.ensures in
    table_writes state_limit a.body.now (Ok t) c.in_ok-table.ensures t refl
    (λ m. witness_questions a.test a.set a.domain (first_by a.test m a.domain a.set) (length a.area.now))
    (λ m. figures_by a.test m a.domain a.set) (λ m. witness_trace (first_by a.test m a.domain a.set)) a.area.now e.figures e.area) in
    record { figures = whole.0; area = whole.1 }
