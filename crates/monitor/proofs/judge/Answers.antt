-- `judge` meets its contract: questions 1 to 8 are 1 to 5 and then 6 to 8.
use Rattle.std.proofs.Common.{sym, ◌∙◌, []}
use Rattle.theory.specs.Monitor.{state_limit}
use Rattle.theory.proofs.Answer.{asks_refused, asks_passed}
use Rattle.basics.proofs.Refusals.{handed_back}
use Rattle.monitor.specs.Questions.{head_questions, row_questions, judge_answer}
use Rattle.monitor.proofs.judge.Goals as goal

pub returns-in_err-judge_head : goal.returns-in_err-judge_head
unfolding judge_answer
returns-in_err-judge_head c =
    let b = c.args.body.now in
    handed_back _ c.from_residual.result _ c.from_residual.ensures.1
    ∙ sym (asks_refused (head_questions state_limit b) (row_questions b) [] [] (sym c.in_err-judge_head.ensures))

pub returns : goal.returns
unfolding judge_answer
returns c =
    let b = c.args.body.now in
    c.judge_rows.ensures
    ∙ sym (asks_passed (head_questions state_limit b) (row_questions b) [] [] (sym c.in_ok-judge_head.ensures))
