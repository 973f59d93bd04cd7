-- `push_line` meets its contract: what a card shows is the line of the definition.
use Rattle.std.proofs.Common.{◌∙◌, ap, List, ℕ, ◌++◌}
use Rattle.theory.specs.Monitor.{state_limit}
use Rattle.lines.proofs.Shown.{rule_carded, rule_refused}
use Rattle.lines.proofs.push_line.Goals as goal

pub returns-in-Ok : goal.returns-in-Ok
returns-in-Ok g c =
    c.push_card.ensures
    ∙ ap (λ (l : List ℕ). c.args.text.now ++ l) (rule_carded state_limit c.args.body.now c.args.rule c.in-Ok.card c.in-Ok.ensures)

pub returns-in-Err : goal.returns-in-Err
returns-in-Err g c =
    c.push_refusal.ensures
    ∙ ap (λ (l : List ℕ). c.args.text.now ++ l) (rule_refused state_limit c.args.body.now c.args.rule c.in-Err.refusal c.in-Err.ensures)
