-- `put_each` meets its contract: the states before p are put where the numbers say.
use mathlib.Core.Path.{◌≡◌}
use Prim.Native.Nat.{ℕ, ◌<◌}
use lib.Dec.{ltb}
use Rattle.state_set.specs.Placing.{Placed}
use Rattle.state_set.proofs.puts.put_each.Given as goal

abbrev pub invariant-loop-p : goal.invariant-loop-p
invariant-loop-p g l =
    (number : ℕ → ℕ → ℕ) → ((p a i : ℕ) → p < l.n → a < l.count → goal.F-post g l.place p a i → i ≡ number p a)
    → Placed number l.count (λ q. ltb q l.p) l.initial.sets l.sets
