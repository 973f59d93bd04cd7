-- `push_line` meets its contract: what is put is the line of the entry, and no line is longer than the longest.
use Rattle.std.proofs.Common.{◌≡◌, ◌∙◌, ap, ap₂, List, ℕ, ◌++◌, arith, length-append}
use Rattle.theory.specs.Monitor.{state_limit}
use Rattle.lines.specs.Line.{rule_line}
use Rattle.listing_text.specs.Listing.{entry_line}
use Rattle.listing_text.proofs.Texts.{entry_short}
use Rattle.listing_text.proofs.push_line.Goals.{After-push_line}
use Rattle.listing_text.proofs.push_line.Goals as goal

-- the line of the entry was put
line : (c : After-push_line) → c.push_line.new.text ≡ c.args.text.now ++ entry_line state_limit c.args.file.now c.args.i
line c = c.push_line.ensures ∙ ap (λ (l : List ℕ). c.args.text.now ++ l) (ap₂ (rule_line state_limit) c.rule_number-rule.ensures.0 c.body-body.ensures)

pub returns-clause-line : goal.returns-clause-line
returns-clause-line c = line (goal.at.returns-clause-line c).After-push_line

pub returns-clause-short : goal.returns-clause-short
returns-clause-short c =
    let rule = c.rule_number-rule.ensures in
    let short = entry_short state_limit c.args.file.now c.args.i (omega arith) c.requires.0 (omega (arith, rule.0, rule.1)) in
    rw (line (goal.at.returns-clause-short c).After-push_line)
    (omega (arith, length-append c.args.text.now (entry_line state_limit c.args.file.now c.args.i), short))
