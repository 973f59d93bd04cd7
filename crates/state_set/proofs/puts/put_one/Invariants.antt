-- `put_one` meets its contract: p is put where the numbers before a say.
use mathlib.Core.Path.{◌≡◌}
use Prim.Native.Nat.{ℕ, ◌<◌}
use lib.Dec.{eqb}
use Rattle.state_set.specs.Placing.{Placed}
use Rattle.state_set.proofs.puts.put_one.Given as goal

abbrev pub invariant-loop-a : goal.invariant-loop-a
invariant-loop-a g l =
    (number : ℕ → ℕ → ℕ) → ((a i : ℕ) → a < l.count → goal.F-post g l.place l.p a i → i ≡ number l.p a)
    → Placed number l.a (λ q. eqb q l.p) l.initial.sets l.sets
