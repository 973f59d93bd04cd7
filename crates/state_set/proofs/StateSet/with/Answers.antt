-- A state sets its own bit, in its word, and no other.
use native.Mathlib.Omega.{arith}
use Rattle.state_set.specs.Member.{in_word, member}
use Rattle.theory.proofs.Bits.{bit_with}
use Rattle.state_set.proofs.Words.{with_low, with_high}
use Rattle.state_set.proofs.StateSet.with.Goals as goal

pub returns-then-q-lt-WORD : goal.returns-then-q-lt-WORD
unfolding member in_word
returns-then-q-lt-WORD c =
    let a = c.args in
    with_low a.self.low a.self.high _ a.q c.if-q-lt-WORD.true (bit_with 64 a.self.low a.q c.if-q-lt-WORD.true)

pub returns-then-q-lt-STATE_LIMIT : goal.returns-then-q-lt-STATE_LIMIT
unfolding member in_word
returns-then-q-lt-STATE_LIMIT c =
    let a = c.args in
    let m = c.if-q-lt-WORD.false in
    let l = c.if-q-lt-STATE_LIMIT.true in
    with_high a.self.low a.self.high _ a.q m l (bit_with 64 a.self.high _ (omega (arith, m, l)))
