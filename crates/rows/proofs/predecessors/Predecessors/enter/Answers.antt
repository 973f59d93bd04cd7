-- `Predecessors::enter` meets its contract: every state is put where its symbols lead.
use borrow.Author.Rules.{rules}
use Rattle.rows.proofs.Gather.{preceding_placed}
use Rattle.rows.proofs.predecessors.Predecessors.enter.Goals as goal

pub invariant_of-result : goal.invariant_of-result
invariant_of-result c = record {
  states = c.all_below.ensures;
  preceding = preceding_placed c.args.graph.now.rows.symbols_most c.clear.ensures (c.put_each.ensures _ (λ p a i lp la e. search rules));
}
