-- `copy` meets its contract: the sets before c are copied.
use mathlib.Core.Path.{◌≡◌}
use Prim.Native.Nat.{ℕ, ◌≤◌, ◌<◌}
use lib.ListN.{length}
use Rattle.theory.specs.Monitor.{state_limit}
use Rattle.state_set.specs.Member.{set_at}
use Rattle.refining.proofs.copy.Given as goal

abbrev pub invariant-loop-c : goal.invariant-loop-c
invariant-loop-c l =
    (length l.splitters ≡ state_limit)
    × ((e q : ℕ) → l.old ≤ e → e < l.c → set_at l.splitters e q ≡ set_at l.blocks.members e q)
