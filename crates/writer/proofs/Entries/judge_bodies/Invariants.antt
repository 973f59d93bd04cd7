-- `judge_bodies` meets its contract: the bodies before this one are accepted.
use Rattle.theory.specs.Monitor.{state_limit}
use Rattle.writer.proofs.Asked.{Accepted}
use Rattle.writer.proofs.Entries.judge_bodies.Given as goal

abbrev pub invariant-loop-entry : goal.invariant-loop-entry
invariant-loop-entry l = Accepted state_limit l.self.lengths.now l.self.bodies.now l.from l.entry-counter
