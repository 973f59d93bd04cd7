-- The set bits of both words are the states.
use native.Mathlib.Omega.{arith}
use Rattle.state_set.specs.Member.{member}
use Rattle.state_set.proofs.Words.{words_count}
use Rattle.state_set.proofs.StateSet.count.Goals as goal

pub returns : goal.returns
unfolding member
returns c = (let s = c.args.self in words_count s.low s.high (omega arith) (omega arith))
