-- `first_from` meets its contract: the set lacks the kinds passed from the rank on.
use Rattle.faults.proofs.Rest.{Lacked}
use Rattle.faults.proofs.FaultSet.first_from.Given as goal

abbrev pub invariant-loop-kind : goal.invariant-loop-kind
invariant-loop-kind l = Lacked l.self.bits l.rank l.kind-index
