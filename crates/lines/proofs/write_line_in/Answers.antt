-- `write_line_in` meets its contract: the text is the line, written if it fits.
use Rattle.std.proofs.Common.{◌≡◌, ◌∙◌, ap, List, ℕ, ◌++◌, length}
use Rattle.theory.specs.Answer.{written}
use Rattle.theory.specs.Monitor.{state_limit}
use Rattle.text.specs.Text.{text_answer}
use Rattle.lines.specs.Line.{rule_line, line_answer}
use Rattle.lines.proofs.write_line_in.Goals.{After-push_line}
use Rattle.lines.proofs.write_line_in.Goals as goal

-- the text that is put together is the line
line : (c : After-push_line) → c.push_line.new.text ≡ rule_line state_limit c.args.rule c.args.body.now
line c = c.push_line.ensures ∙ ap (λ (l : List ℕ). l ++ rule_line state_limit c.args.rule c.args.body.now) c.new-text.ensures

pub returns-clause-figures : goal.returns-clause-figures
unfolding line_answer
returns-clause-figures c =
    c.write.ensures.figures
    ∙ ap (λ (text : List ℕ). text_answer text (length c.args.area.now)) (line (goal.at.returns-clause-figures c).After-push_line)

pub returns-clause-area : goal.returns-clause-area
unfolding line_answer
returns-clause-area c =
    c.write.ensures.area
    ∙ ap (λ (text : List ℕ). written (text_answer text (length c.args.area.now)) text c.args.area.now) (line (goal.at.returns-clause-area c).After-push_line)
