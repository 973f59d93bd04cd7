-- `first_not_below` meets its contract: none is found, or the first of which the test holds is looked for.
use Rattle.std.proofs.Common.{sym, ◌∙◌, rules}
use Rattle.theory.proofs.Scan.{none_first}
use Rattle.monitor.proofs.first_not_below.Goals as goal

pub returns-then-not-some_not_below : goal.returns-then-not-some_not_below
returns-then-not-some_not_below c = none_first _ _ (sym c.some_not_below.ensures ∙ c.if-not-some_not_below.true)

pub returns : goal.returns
returns c = c.first_in.ensures _ (λ i b from upto e. search rules)
