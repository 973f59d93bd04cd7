-- `put_one` meets its contract: p is put where the numbers before a say.
use native.Mathlib.Omega.{arith}
use Rattle.state_set.proofs.Placing.{placed_begins, placed_more}
use Rattle.state_set.proofs.Sets.{set_put}
use Rattle.state_set.proofs.puts.put_one.Goals as goal

pub loop-a-init : goal.loop-a-init
loop-a-init g c = λ number same. placed_begins _ _

pub loop-a-preserved : goal.loop-a-preserved
loop-a-preserved g c = λ number same.
    placed_more (c.loop-a.invariant number same) c.requires.state (same _ _ c.loop-a-test.true c.place-i.ensures)
    (set_put _ _ _ (omega (arith, c.requires.room _ _ c.loop-a-test.true c.place-i.ensures, (c.loop-a.invariant number same).size)))
    c.with.ensures
