-- `first_revoking` meets its contract: the rows before q have no next state that gives up a verdict.
use Rattle.std.proofs.Common.{◌*◌, length}
use Rattle.theory.proofs.Scan.{Passed}
use Rattle.monitor.specs.Questions.{revokes}
use Rattle.monitor.proofs.first_revoking.Given as goal

abbrev pub invariant-loop-q : goal.invariant-loop-q
invariant-loop-q l =
    Passed (revokes l.marks l.graph.nexts.now l.graph.symbols) 0 (length l.graph.nexts.now) (l.q * l.graph.symbols)
