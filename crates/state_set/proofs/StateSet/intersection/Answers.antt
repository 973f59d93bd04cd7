-- The bits of `&`, word by word.
use mathlib.Core.Bool.{◌&&◌}
use Rattle.state_set.specs.Member.{in_word, member}
use Rattle.theory.proofs.Bits.{bit_and_lem}
use Rattle.state_set.proofs.Words.{words_by}
use Rattle.state_set.proofs.StateSet.intersection.Goals as goal

pub returns : goal.returns
unfolding member in_word
returns c =
    let a = c.args in
    words_by (λ x y. x && y) a.self.low a.other.low a.self.high a.other.high _ _ (bit_and_lem _ _) (bit_and_lem _ _)
