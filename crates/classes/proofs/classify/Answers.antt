-- `classify` meets its contract: a body that is not opened is refused, and one that is, answers by its table.
use Rattle.std.proofs.Common.{refl, ◌∙◌, length}
use Rattle.std.specs.Prelude.{Ok, Err}
use Rattle.theory.specs.Monitor.{state_limit}
use Rattle.basics.proofs.Refusals.{handed_back}
use Rattle.monitor.specs.Format.{monitor_of}
use Rattle.opening.proofs.Handing.{no_asks, no_writes, table_writes}
use Rattle.classes.specs.Classify.{class_list, classify_questions, classify_figures, classify_answer}
use Rattle.classes.proofs.classify.Goals as goal

pub returns-in_err-table : goal.returns-in_err-table
unfolding classify_answer
returns-in_err-table c =
    let a = c.args in
    let m = monitor_of a.body.now in
    let questions = classify_questions (length a.area.now) m in
    let x = c.in_err-table.field-0.0 in
    let no = c.in_err-table.ensures in
    record {
      figures = handed_back _ c.from_residual.result _ c.from_residual.ensures.1
          ∙ no_asks state_limit a.body.now (Err x) no x refl questions (classify_figures m);
      area = no_writes state_limit a.body.now (Err x) no x refl questions (classify_figures m) (class_list m) a.area.now;
    }

pub returns : goal.returns
unfolding classify_answer
returns c =
    let a = c.args in
    let t = c.in_ok-table.table in
    let e = c.classify_table.ensures in
    let whole = table_writes state_limit a.body.now (Ok t) c.in_ok-table.ensures t refl (classify_questions (length a.area.now)) classify_figures
    class_list a.area.now e.figures e.area in
    record { figures = whole.0; area = whole.1 }
