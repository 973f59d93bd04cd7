-- `reaching` meets its contract: what is joined over the predecessors is what `leads` says.
use borrow.Author.Rules.{rules}
use Rattle.theory.specs.Monitor.{state_limit}
use Rattle.state_set.specs.Member.{member}
use Rattle.monitor.specs.Graph.{automaton}
use Rattle.monitor.proofs.Rows.{next_of_rows}
use Rattle.reach.proofs.Closure.{joined_leads}
use Rattle.reach.proofs.Predecessors.{preceding}
use Rattle.reach.proofs.reaching.Goals as goal

pub returns : goal.returns
returns c =
    let rows = c.args.graph.now.rows in
    let closed = next_of_rows rows in
    let sets = preceding {g = automaton c.args.graph.now} state_limit _ rows.states_most c.empty-sets.ensures
    (c.put_each.ensures _ (λ p a i lp la e. search rules)) in
    record {
      one = joined_leads closed (member c.args.one) sets (c.expand.ensures _ (λ q s upto e p. search rules));
      other = joined_leads closed (member c.args.other) sets (c.expand-2.ensures _ (λ q s upto e p. search rules));
    }
