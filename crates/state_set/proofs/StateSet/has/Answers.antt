-- The code reads the bit in its word; past both words there is none.
use mathlib.Core.Path.{sym, ◌∙◌}
use native.Mathlib.Omega.{arith}
use Rattle.state_set.specs.Member.{in_word, member}
use Rattle.theory.proofs.Bits.{bit_read}
use Rattle.state_set.proofs.Words.{low_at, high_from, words_past}
use Rattle.state_set.proofs.StateSet.has.Goals as goal

pub returns-then-q-lt-WORD : goal.returns-then-q-lt-WORD
unfolding member in_word
returns-then-q-lt-WORD c = (let a = c.args in bit_read a.self.low a.q ∙ sym (low_at a.self.low a.self.high a.q c.if-q-lt-WORD.true))

pub returns-then-q-lt-STATE_LIMIT : goal.returns-then-q-lt-STATE_LIMIT
unfolding member in_word
returns-then-q-lt-STATE_LIMIT c =
    let a = c.args in
    bit_read a.self.high _ ∙ sym (high_from a.self.low a.self.high a.q c.if-q-lt-WORD.false)

pub returns : goal.returns
unfolding member
returns c = (let a = c.args in sym (words_past a.self.low a.self.high a.q (omega arith) c.if-q-lt-STATE_LIMIT.false))
