-- The word 0 has no bit.
use Rattle.state_set.specs.Member.{member}
use Rattle.state_set.proofs.Words.{words_none}
use Rattle.state_set.proofs.StateSet.empty.Goals as goal

pub returns : goal.returns
unfolding member
returns c = words_none
