-- `of` meets its contract: the set has the bits of the number below the ranks passed.
use mathlib.Core.Path.{sym, ap, ◌∙◌}
use Rattle.theory.specs.Faults.{holds}
use Rattle.faults.proofs.ByKind.{bit_is, listed_rank}
use Rattle.faults.proofs.Numbered.{below_with, below_without}
use Rattle.faults.proofs.FaultSet.of.Goals.{then-has_bit, else-has_bit}
use Rattle.faults.proofs.FaultSet.of.Goals as goal

pub loop-kind-preserved : goal.loop-kind-preserved
loop-kind-preserved c =
    let number = c.args.number in
    let at = c.loop-kind in
    let rank = listed_rank at.kind-index _ c.loop-kind-test.true in
    let has = sym (c.has_bit.ensures ∙ ap (holds number) (c.rank.ensures ∙ rank)) in
    elim c.if-has_bit.branch [
      | then-has_bit w ↦ rw (w.set-is, w.with-set.ensures, bit_is, rank) (below_with number at.kind-index at.invariant (has ∙ w.if-has_bit.true))
      | else-has_bit w ↦ rw w.set-is (below_without number at.kind-index at.invariant (has ∙ w.if-has_bit.false))
    ]
