-- `single` meets its contract: a block that has one state has no other.
use mathlib.Core.Path.{sym, ◌∙◌}
use Rattle.state_set.specs.Member.{member}
use Rattle.refining.proofs.Rounds.{only_one}
use Rattle.refining.proofs.single.Goals as goal

pub returns-then-count-eq1 : goal.returns-then-count-eq1
returns-then-count-eq1 c = (λ p t. t, only_one (member c.args.block) (sym c.count.ensures ∙ c.if-count-eq1.true))
