-- `alone_from` meets its contract: the blocks before c are looked at.
use mathlib.Core.Path.{◌≡◌}
use mathlib.Core.Bool.{true}
use Prim.Native.Nat.{ℕ, ◌<◌}
use Rattle.theory.specs.Monitor.{state_limit}
use Rattle.state_set.specs.Member.{member}
use Rattle.refining.specs.Refined.{Only}
use Rattle.refining.proofs.alone_from.Given as goal

abbrev pub invariant-loop-c : goal.invariant-loop-c
invariant-loop-c l = (p : ℕ) → p < state_limit → member l.found p ≡ true → Only l.blocks p
