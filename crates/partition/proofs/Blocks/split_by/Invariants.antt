-- `split_by` meets its contract: the blocks that have states of the set which are not left are split.
use Rattle.theory.specs.Below.{count}
use Rattle.theory.specs.Monitor.{state_limit}
use Rattle.state_set.specs.Member.{member}
use Rattle.partition.proofs.Splits.{Splitting}
use Rattle.partition.proofs.Blocks.split_by.Given as goal

abbrev pub invariant-loop-q : goal.invariant-loop-q
invariant-loop-q l = Splitting l.n l.d (member l.set) l.initial.square l.initial.self (member l.left) l.square l.self

abbrev pub decreases-loop-q : goal.decreases-loop-q
decreases-loop-q l = count state_limit (member l.left)
