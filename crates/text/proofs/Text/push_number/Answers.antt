-- `push_number` meets its contract: the fewest digits that hold the number are its decimal.
use Rattle.std.proofs.Common.{◌∙◌, ap, ◌++◌, List, ℕ, rules}
use Rattle.text.proofs.Decimal.{decimal_is, decimal_fits}
use Rattle.text.proofs.Text.push_number.Goals as goal

pub returns-clause-text : goal.returns-clause-text
returns-clause-text g c =
    let digits = c.decimal-count.ensures in
    c.push.ensures ∙ ap (λ (l : List ℕ). c.args.self.now ++ l) (digits.digits ∙ decimal_is c.args.n _ digits.len)

pub returns-clause-short : goal.returns-clause-short
returns-clause-short g c = decimal_fits c.args.n _ (search rules) c.decimal-count.ensures.len
