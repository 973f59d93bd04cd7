-- `unused` meets its contract.
use Prim.Native.Nat.{ℕ}
use lib.ListN.{length-replicate, get_or-replicate}
use Rattle.theory.specs.Monitor.{state_limit}
use Rattle.square.specs.Square.{never}
use Rattle.totals.proofs.unused.Goals as goal

pub returns : goal.returns
returns c = record { size = length-replicate {A = ℕ} state_limit never; filled = λ q l. get_or-replicate {A = ℕ} state_limit q never 0 l }
