-- An empty set has no first state.
use Rattle.theory.specs.Monitor.{state_limit}
use Rattle.state_set.specs.Member.{member}
use Rattle.state_set.proofs.Taking.{none_found}
use Rattle.state_set.proofs.StateSet.is_empty.Goals as goal

pub returns : goal.returns
returns c = none_found state_limit (member c.args.self) _ _ c.first.ensures c.is_none.ensures
