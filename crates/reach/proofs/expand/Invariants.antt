-- `expand` meets its contract: what was expanded has what it adds in the set, and the set is the least one so far.
use mathlib.Core.Path.{◌≡◌}
use mathlib.Core.Bool.{Bool}
use Prim.Native.Nat.{ℕ, ◌-◌, ◌<◌}
use Rattle.theory.specs.Below.{count}
use Rattle.theory.specs.Monitor.{state_limit}
use Rattle.state_set.specs.declared.StateSet.{StateSet}
use Rattle.state_set.specs.Member.{member}
use Rattle.reach.proofs.Closure.{Expanding}
use Rattle.reach.proofs.expand.Given as goal

abbrev pub invariant-loop-q : goal.invariant-loop-q
invariant-loop-q g l =
    (f : ℕ → ℕ → Bool) → ((q : ℕ) (s : StateSet) → q < l.n → goal.F-post g l.adds q s → (p : ℕ) → member s p ≡ f q p)
    → Expanding l.n f (member l.fn.targets) (member l.wide) (member l.expanded)

abbrev pub decreases-loop-q : goal.decreases-loop-q
decreases-loop-q g l = state_limit - count state_limit (member l.expanded)
