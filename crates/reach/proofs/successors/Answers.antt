-- `successors` meets its contract: the set holds what the symbols passed lead to.
use native.Mathlib.Nat.{lt_of_lt_of_le}
use Rattle.theory.specs.Below.{any}
use Rattle.theory.specs.Monitor.{state_limit}
use Rattle.state_set.specs.Member.{member}
use Rattle.monitor.specs.Graph.{automaton}
use Rattle.reach.proofs.Steps.{successors_turn}
use Rattle.reach.proofs.successors.Goals as goal

pub loop-a-init : goal.loop-a-init
unfolding any
loop-a-init c = c.empty-set.ensures

pub loop-a-preserved : goal.loop-a-preserved
loop-a-preserved c =
    let a = c.args in
    let at = c.loop-a in
    let s = c.successor.ensures in
    successors_turn (automaton a.graph.now) a.q at.a state_limit c.successor.result (member at.set) (member c.with-set.result)
    s.next (lt_of_lt_of_le s.inside a.graph.now.rows.states_most) c.with-set.ensures at.invariant
