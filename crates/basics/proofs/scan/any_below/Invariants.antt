-- `any_below` meets its contract: the numbers before `i` fail every test that the closure computes.
use Rattle.std.proofs.Common.{◌≡◌, ◌<◌, ℕ, Bool}
use Rattle.theory.proofs.Scan.{Passed}
use Rattle.basics.proofs.scan.any_below.Given as goal

abbrev pub invariant-loop-i : goal.invariant-loop-i
invariant-loop-i g l =
    (f : ℕ → Bool) → ((i : ℕ) (b : Bool) → i < l.n → goal.F-post g l.passes i b → b ≡ f i) → Passed f 0 l.n l.i
