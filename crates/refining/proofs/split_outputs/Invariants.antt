-- `split_outputs` meets its contract: two states of a block, one of which is not left, have one output.
use Rattle.theory.specs.Below.{count}
use Rattle.theory.specs.Monitor.{state_limit}
use Rattle.state_set.specs.Member.{member}
use Rattle.refining.proofs.Rounds.{Sorting}
use Rattle.refining.proofs.split_outputs.Given as goal

abbrev pub invariant-loop-x : goal.invariant-loop-x
invariant-loop-x l = Sorting l.n l.outputs l.initial.square l.initial.blocks (member l.left) l.square l.blocks

abbrev pub decreases-loop-x : goal.decreases-loop-x
decreases-loop-x l = count state_limit (member l.left)
