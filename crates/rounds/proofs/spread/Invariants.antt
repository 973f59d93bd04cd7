-- `spread` meets its contract: the rows that lead to a state which is not left are done.
use mathlib.Core.Path.{◌≡◌}
use mathlib.Core.Bool.{Bool, false}
use Prim.Native.Nat.{ℕ}
use Rattle.state_set.specs.Member.{member}
use Rattle.monitor.specs.Graph.{automaton}
use Rattle.rows.specs.Sets.{Within, Active}
use Rattle.rows.specs.Midway.{Ground}
use Rattle.rows.specs.Searching.{Bare, Stays}
use Rattle.rounds.specs.Layers.{Layer}
use Rattle.rounds.proofs.Rounds.{Spreading}
use Rattle.rounds.proofs.spread.Given as goal

abbrev pub invariant-loop-row : goal.invariant-loop-row
invariant-loop-row l =
    Within l.predecessors.graph.states (member l.row-iterator.left)
    × ((ends : ℕ → ℕ → Bool) → Ground (automaton l.predecessors.graph) ends l.predecessors.sets.now → Bare l.predecessors.graph.states l.fn.next
    → Active l.predecessors.graph.states l.fn.search.alike l.fn.search.active
    → Layer (automaton l.predecessors.graph) ends l.r l.fn.search.square.now l.fn.search.alike l.fn.fresh.sets (member l.fn.fresh.rows)
    → Spreading (automaton l.predecessors.graph) ends l.r (member l.fn.fresh.rows) (member l.row-iterator.left) l.fn.fresh.sets l.fresh.sets
    l.search.square.now l.search.alike l.next.sets l.search.active (member l.next.rows))
    × ((p : ℕ) → member l.fresh.rows p ≡ false)
    × Stays l.initial.search l.search
