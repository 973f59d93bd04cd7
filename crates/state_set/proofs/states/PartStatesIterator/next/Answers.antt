-- The bit of a word of part w is that of a state of part w.
use Rattle.state_set.proofs.Taking.{part_taken, none_in_part, taken_less}
use Rattle.state_set.proofs.states.PartStatesIterator.next.Goals as goal

pub returns-in_err-bit-clause-steps : goal.returns-in_err-bit-clause-steps
returns-in_err-bit-clause-steps c = rw c.from_residual.ensures (none_in_part c.args.self.now.part _ _ c.in_err-bit.ensures)

pub returns-clause-steps : goal.returns-clause-steps
returns-clause-steps c = part_taken _ _ _ _ c.in_ok-bit.ensures c.args.self.now.small

pub returns-clause-goes : goal.returns-clause-goes
returns-clause-goes c = record {
  on = λ f. (tt, tt, taken_less (part_taken _ _ _ _ c.in_ok-bit.ensures c.args.self.now.small));
  keeps = tt;
  rests = λ f. tt;
}
