-- The lowest state is that of the lower word, or of the upper one where the lower is empty.
use Rattle.state_set.specs.Member.{member}
use Rattle.state_set.specs.Taking.{Taken}
use Rattle.state_set.proofs.Taking.{low_taken, high_taken, taken_less, none_taken}
use Rattle.state_set.proofs.states.StatesIterator.next.Goals as goal

in_low : (c : goal.In-Some) → Taken 128 (member c.args.self.now.left) c.in-Some.q (member (record { low = c.take_lowest.new.word; high = c.args.self.now.left.high }))
unfolding member
in_low c = low_taken _ _ _ c.in-Some.ensures c.args.self.now.left.high

pub returns-in-Some-clause-steps : goal.returns-in-Some-clause-steps
returns-in-Some-clause-steps c = in_low c

pub returns-in-Some-clause-goes : goal.returns-in-Some-clause-goes
returns-in-Some-clause-goes c = record { on = λ f. (tt, tt, taken_less (in_low c)); keeps = tt; rests = λ f. tt }

pub returns-in_err-bit-clause-steps : goal.returns-in_err-bit-clause-steps
unfolding member
returns-in_err-bit-clause-steps c = rw c.from_residual.ensures (none_taken _ _ _ _ c.in_default.ensures c.in_err-bit.ensures)

pub returns-clause-steps : goal.returns-clause-steps
unfolding member
returns-clause-steps c = high_taken _ _ _ c.in_ok-bit.ensures _ _ c.in_default.ensures

pub returns-clause-goes : goal.returns-clause-goes
unfolding member
returns-clause-goes c = record { on = λ f. (tt, tt, taken_less (high_taken _ _ _ c.in_ok-bit.ensures _ _ c.in_default.ensures)); keeps = tt; rests = λ f. tt }
