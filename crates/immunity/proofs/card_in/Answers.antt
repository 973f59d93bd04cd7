-- `card_in` meets its contract: a body that is not opened is refused, and one that is, answers by its table.
use mathlib.Core.Path.{refl, sym, ap, ◌∙◌}
use mathlib.Core.List.{[]}
use Rattle.std.specs.Prelude.{Ok}
use Rattle.theory.specs.Monitor.{state_limit}
use Rattle.theory.proofs.Answer.{asks_other, asks_refuses}
use Rattle.monitor.specs.Format.{monitor_of}
use Rattle.monitor.specs.Questions.{table_questions, judge_answer}
use Rattle.opening.specs.Opens.{open_table_answer}
use Rattle.opening.proofs.Handing.{table_monitor, table_accepted}
use Rattle.immunity.specs.Findings.{card_asking, card_answer}
use Rattle.immunity.proofs.Columns.{card_handed, card_asks, card_refuses}
use Rattle.immunity.proofs.card_in.Goals as goal

pub returns-in_err-table : goal.returns-in_err-table
unfolding card_answer open_table_answer
returns-in_err-table c =
    let b = c.args.body.now in
    let questions = table_questions state_limit b in
    card_handed c.from_residual.result _ c.from_residual.ensures.1
    ∙ card_refuses questions (monitor_of b) _ (λ A values. asks_refuses questions (monitor_of b) values (sym c.in_err-table.ensures))

pub returns : goal.returns
unfolding card_answer judge_answer
returns c =
    let b = c.args.body.now in
    let questions = table_questions state_limit b in
    let t = c.in_ok-table.table in
    let accepted = table_accepted state_limit b (Ok t) c.in_ok-table.ensures t refl in
    c.card_of.ensures
    ∙ ap (card_asking []) (table_monitor state_limit b (Ok t) c.in_ok-table.ensures t refl)
    ∙ card_asks questions (monitor_of b) (λ A values. asks_other questions [] values accepted)
