-- `split_by` meets its contract: the blocks that have states of the set which are not left are split.
use mathlib.Core.Path.{refl}
use native.Mathlib.Omega.{arith}
use Rattle.theory.specs.Monitor.{state_limit}
use Rattle.partition.proofs.Splits.{blocks_few, splitting_less, splitting_more}
use Rattle.partition.proofs.Blocks.split_by.Goals as goal

pub states_of-requires : goal.states_of-requires
states_of-requires c =
    let at = c.loop-q.invariant.partition in
    let l = at.below c.in-Some.q c.if-q-n.true in
    let m = blocks_few at in
    omega (arith, l, m, at.few)

pub loop-q-smaller : goal.loop-q-smaller
loop-q-smaller c =
    splitting_less c.loop-q.invariant c.if-q-n.true refl c.states_of.ensures c.minus-left.ensures state_limit c.requires.0.few c.in-Some.ensures.found

pub loop-q-preserved : goal.loop-q-preserved
loop-q-preserved c =
    let s = c.split_block.ensures in
    splitting_more c.loop-q.invariant c.if-q-n.true refl c.states_of.ensures c.minus-left.ensures s.blocks s.finer s.stable
