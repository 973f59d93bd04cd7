-- `of` meets its contract: the set has the bits of the number below the ranks passed.
use Rattle.faults.proofs.Numbered.{Below}
use Rattle.faults.proofs.FaultSet.of.Given as goal

abbrev pub invariant-loop-kind : goal.invariant-loop-kind
invariant-loop-kind l = Below l.number l.kind-index l.set.bits
