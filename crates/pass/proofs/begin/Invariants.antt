-- `begin` meets its contract: the pass is at the pair with its number, and the pairs before it have begun.
use mathlib.Core.Path.{◌≡◌}
use Prim.Native.Nat.{◌*◌, ◌-◌}
use Rattle.state_set.specs.Member.{member}
use Rattle.rows.specs.Searching.{Stays}
use Rattle.pass.proofs.First.{Walking}
use Rattle.pass.proofs.begin.Given as goal

abbrev pub invariant-loop-at : goal.invariant-loop-at
invariant-loop-at l =
    Walking l.test l.outputs l.at l.search.square.now l.search.alike l.fresh.sets (member l.fresh.rows) × (l.search.active ≡ l.initial.search.active)
    × Stays l.initial.search l.search

abbrev pub decreases-loop-at : goal.decreases-loop-at
decreases-loop-at l = l.n * l.n - l.at.number
