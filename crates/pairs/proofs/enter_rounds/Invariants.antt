-- `enter_rounds` meets its contract: after r rounds every pair has had r, and when no pair is fresh all are done.
use Prim.Native.Nat.{◌+◌, ◌-◌, ◌*◌, ◌≤◌}
use Rattle.state_set.specs.Member.{member}
use Rattle.monitor.specs.Graph.{automaton}
use Rattle.square.specs.Square.{apart_at_once}
use Rattle.rows.specs.Sets.{Active}
use Rattle.rows.specs.Midway.{Ground}
use Rattle.rows.specs.Searching.{Bare, Stays}
use Rattle.rounds.specs.Layers.{Layer}
use Rattle.pairs.proofs.enter_rounds.Given as goal

abbrev pub invariant-rounds : goal.invariant-rounds
invariant-rounds l =
    let g = automaton l.predecessors.graph in
    let ends = apart_at_once l.initial.search.square.now in
    (l.r ≤ g.states * g.states + 2) × Ground g ends l.predecessors.sets.now
    × Layer g ends l.r l.search.square.now l.search.alike l.fresh.sets (member l.fresh.rows)
    × Bare g.states l.next × Active g.states l.search.alike l.search.active
    × Stays l.fn.search l.search

abbrev pub decreases-rounds : goal.decreases-rounds
decreases-rounds l = l.predecessors.graph.states * l.predecessors.graph.states + 4 - l.r
