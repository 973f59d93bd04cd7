-- `first_in` meets its contract: the numbers before `i` fail every test that the closure computes.
use Rattle.std.proofs.Common.{◌≡◌, ◌<◌, ◌≤◌, ◌+◌, ℕ, Bool}
use Rattle.theory.proofs.Scan.{Passed}
use Rattle.basics.proofs.scan.first_in.Given as goal

abbrev pub invariant-loop-i : goal.invariant-loop-i
invariant-loop-i g l =
    (f : ℕ → Bool) → ((i : ℕ) (b : Bool) → l.from ≤ i → i < l.from + l.count → goal.F-post g l.passes i b → b ≡ f i)
    → Passed f l.from l.count l.i
