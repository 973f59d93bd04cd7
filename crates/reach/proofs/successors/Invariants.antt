-- `successors` meets its contract: the set holds what the symbols passed lead to.
use mathlib.Core.Path.{◌≡◌}
use Prim.Native.Nat.{ℕ}
use Rattle.theory.specs.Below.{any}
use Rattle.state_set.specs.Member.{member}
use Rattle.monitor.specs.Graph.{automaton}
use Rattle.reach.specs.Closure.{leads_to}
use Rattle.reach.proofs.successors.Given as goal

abbrev pub invariant-loop-a : goal.invariant-loop-a
invariant-loop-a l = (p : ℕ) → member l.set p ≡ any l.a (leads_to (automaton l.graph) l.q p)
