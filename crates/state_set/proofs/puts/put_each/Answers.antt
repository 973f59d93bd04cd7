-- `put_each` meets its contract: the states before p are put where the numbers say.
use Rattle.state_set.proofs.Placing.{placed_next}
use Rattle.state_set.proofs.puts.put_each.Goals as goal

pub loop-p-preserved : goal.loop-p-preserved
loop-p-preserved g c = λ number same.
    placed_next c.loop-p.p (c.loop-p.invariant number same) (c.put_one.ensures number (λ a i. same c.loop-p.p a i c.loop-p-test.true))
