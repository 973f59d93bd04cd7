-- The zeros below the lowest bit are its number; the word 0 has none.
use native.Mathlib.Omega.{arith}
use Rattle.state_set.specs.Member.{in_word}
use Rattle.theory.proofs.Bits.{bit_empty}
use Rattle.state_set.proofs.Taking.{bit_taken}
use Rattle.state_set.proofs.states.take_lowest.Goals as goal

pub returns-then-left-eq0 : goal.returns-then-left-eq0
unfolding in_word
returns-then-left-eq0 c = λ q. rw c.if-left-eq0.true (bit_empty q, bit_empty q)

pub returns : goal.returns
returns c = bit_taken c.args.word.now (omega arith) (omega (arith, c.if-left-eq0.false))
