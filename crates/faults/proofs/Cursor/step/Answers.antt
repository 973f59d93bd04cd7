-- `step` meets its contract.
use Rattle.faults.specs.Kinds.{rank_of}
use Rattle.faults.proofs.ByKind.{second_in}
use Rattle.faults.proofs.Cursor.step.Goals as goal

pub returns-clause-ranged : goal.returns-clause-ranged
returns-clause-ranged c =
    λ k p. c.fault_of.ensures.ranged k p.first_in (second_in (rank_of c.args.self.kind) p.first_in p.second_in)
