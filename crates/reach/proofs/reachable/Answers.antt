-- `reachable` meets its contract: what is joined over successors can be reached.
use native.Mathlib.Nat.{lt_of_lt_of_le}
use borrow.Author.Rules.{rules}
use Rattle.theory.specs.Monitor.{state_limit}
use Rattle.monitor.specs.Graph.{automaton}
use Rattle.monitor.proofs.Rows.{next_of_rows}
use Rattle.reach.proofs.Closure.{joined_reached}
use Rattle.reach.proofs.Steps.{with_only}
use Rattle.reach.proofs.reachable.Goals as goal

pub returns : goal.returns
returns c =
    let rows = c.args.graph.now.rows in
    record {
      at = joined_reached (automaton c.args.graph.now) (next_of_rows rows) c.requires
          (with_only state_limit c.args.start (lt_of_lt_of_le c.requires rows.states_most) c.empty.ensures c.with-first.ensures)
          (c.expand.ensures _ (λ q s upto e p. search rules));
    }
