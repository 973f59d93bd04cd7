-- The bits of `& !`, word by word.
use mathlib.Core.Bool.{not, ◌&&◌}
use native.Mathlib.Omega.{arith}
use Rattle.state_set.specs.Member.{in_word, member}
use Rattle.theory.proofs.Bits.{bit_minus}
use Rattle.state_set.proofs.Words.{words_by}
use Rattle.state_set.proofs.StateSet.minus.Goals as goal

pub returns : goal.returns
unfolding member in_word
returns c =
    let a = c.args in
    words_by (λ x y. x && not y) a.self.low a.other.low a.self.high a.other.high _ _ (bit_minus 64 _ _ (omega arith) (omega arith))
    (bit_minus 64 _ _ (omega arith) (omega arith))
