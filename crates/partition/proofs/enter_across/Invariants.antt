-- `enter_across` meets its contract: what is left to be entered makes the whole.
use Rattle.state_set.specs.Member.{member}
use Rattle.partition.specs.Blocks.{between}
use Rattle.partition.proofs.Stores.{Entering}
use Rattle.partition.proofs.enter_across.Given as goal

abbrev pub invariant-loop-p : goal.invariant-loop-p
invariant-loop-p l =
    Entering l.initial.square (between (member l.fn.one) (member l.others)) l.d l.square
    (between (member l.p-iterator.left) (member l.others))
