-- `first_from` meets its contract: the set lacks the kinds passed from the rank on.
use mathlib.Core.Path.{sym, ◌∙◌}
use native.Mathlib.Omega.{arith}
use Rattle.faults.specs.declared.Kind.TheVariants.{Loss}
use Rattle.faults.proofs.ByKind.{listed_rank}
use Rattle.faults.proofs.Rest.{lacked_held, lacked_on, lacked_end}
use Rattle.faults.proofs.FaultSet.first_from.Goals.{else-rank-via-then-rank+else-contains, else-rank-via-else-rank}
use Rattle.faults.proofs.FaultSet.first_from.Goals as goal

pub returns-then-contains-clause-rest : goal.returns-then-contains-clause-rest
returns-then-contains-clause-rest c =
    let at = c.loop-kind in
    let rank = listed_rank at.kind-index _ c.loop-kind-test.true in
    lacked_held _ _ at.invariant _ rank (omega (arith, rank, c.rank.ensures)) (sym c.contains.ensures ∙ c.if-contains.true)

pub loop-kind-preserved : goal.loop-kind-preserved
loop-kind-preserved c =
    let at = c.loop-kind in
    let rank = listed_rank at.kind-index Loss c.loop-kind-test.true in
    elim c.else-rank.branch [
      | else-rank-via-then-rank+else-contains w ↦ lacked_on _ _ at.invariant c.loop-kind-test.true (λ _. rw rank at (sym w.contains.ensures ∙ w.if-contains.false))
      | else-rank-via-else-rank w ↦ lacked_on _ _ at.invariant c.loop-kind-test.true (λ h. absurd (omega (arith, h, rank, c.rank.ensures, w.if-rank.false)))
    ]

pub returns-clause-rest : goal.returns-clause-rest
returns-clause-rest c = λ k some. lacked_end _ _ c.loop-kind.invariant (omega (arith, c.loop-kind-test.false)) c.requires k
