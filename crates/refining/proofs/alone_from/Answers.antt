-- `alone_from` meets its contract: the blocks before c are looked at.
use Rattle.refining.proofs.Rounds.{only_more}
use Rattle.refining.proofs.alone_from.Goals as goal

pub loop-c-preserved : goal.loop-c-preserved
loop-c-preserved c =
    let s = c.single.ensures in
    only_more c.loop-c-test.true c.loop-c.invariant c.states_of.ensures s.0 s.1 c.union-found.ensures
