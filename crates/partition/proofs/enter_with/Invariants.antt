-- `enter_with` meets its contract: what is left to be entered makes the whole.
use lib.Dec.{eqb}
use Rattle.state_set.specs.Member.{member}
use Rattle.partition.specs.Blocks.{between}
use Rattle.partition.proofs.Stores.{Entering}
use Rattle.partition.proofs.enter_with.Given as goal

abbrev pub invariant-loop-q : goal.invariant-loop-q
invariant-loop-q l =
    Entering l.initial.square (between (λ x. eqb x l.p) (member l.fn.others)) l.d l.square
    (between (λ x. eqb x l.p) (member l.q-iterator.left))
