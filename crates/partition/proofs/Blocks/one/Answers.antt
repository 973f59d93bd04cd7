-- `one` meets its contract: every number is 0, and set 0 has the states below n.
use native.Mathlib.Omega.{arith}
use lib.ListN.{get_or-replicate}
use Prim.Native.Nat.{ℕ}
use Rattle.theory.specs.Monitor.{state_limit}
use Rattle.partition.proofs.Splits.{first_partition}
use Rattle.partition.proofs.Blocks.one.Goals as goal

pub returns-clause-blocks : goal.returns-clause-blocks
returns-clause-blocks c =
    λ square B.
    first_partition c.requires c.min.ensures (λ q lq. get_or-replicate {A = ℕ} state_limit q 0 0 (omega (arith, lq, c.requires)))
    c.all_below.ensures B
