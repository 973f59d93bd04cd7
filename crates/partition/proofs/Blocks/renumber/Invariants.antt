-- `renumber` meets its contract: the states that are left with the number c make the whole.
use mathlib.Core.Path.{◌≡◌}
use mathlib.Core.Bool.{cond}
use Prim.Native.Nat.{ℕ, ◌<◌}
use lib.ListN.{get_or}
use Rattle.theory.specs.Monitor.{state_limit}
use Rattle.state_set.specs.Member.{member}
use Rattle.partition.proofs.Blocks.renumber.Given as goal

abbrev pub invariant-loop-q : goal.invariant-loop-q
invariant-loop-q l =
    ((q : ℕ) → q < state_limit
    → cond (member l.q-iterator.left q) l.c (get_or l.self.numbers q 0) ≡ cond (member l.fn.set q) l.c (get_or l.initial.self.numbers q 0))
    × (l.self.members ≡ l.initial.self.members)
    × (l.self.count ≡ l.initial.self.count)
