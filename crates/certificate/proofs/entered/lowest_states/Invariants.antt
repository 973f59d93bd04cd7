-- `lowest_states` meets its contract: the states from `q` on are entered.
use Rattle.theory.specs.Monitor.{state_limit}
use Rattle.certificate.proofs.Lowest.{Entered}
use Rattle.certificate.proofs.entered.lowest_states.Given as goal

abbrev pub invariant-loop-q : goal.invariant-loop-q
invariant-loop-q l = Entered state_limit l.blocks l.q l.lowest
