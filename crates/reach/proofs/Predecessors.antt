-- The predecessors of every state, as they are put into sets.
use mathlib.Core.Path.{◌≡◌, ◌∙◌}
use mathlib.Core.Bool.{false, ◌&&◌}
use mathlib.Core.List.{List}
use Prim.Native.Nat.{ℕ, ◌≤◌, ◌<◌}
use native.Mathlib.Omega.{arith}
use lib.Dec.{ltb}
use lib.ListN.{replicate}
use Rattle.theory.specs.Below.{any}
use Rattle.theory.specs.Automaton.{Automaton}
use Rattle.state_set.specs.declared.StateSet.{StateSet}
use Rattle.state_set.specs.Member.{member, set_at}
use Rattle.state_set.specs.Placing.{Placed}
use Rattle.state_set.proofs.Sets.{set_all}
use Rattle.reach.specs.Closure.{leads_to}

-- for each state, the set has those from which some symbol leads there
pub record Preceding (g : Automaton) (sets : List StateSet) : Type 0 where
  pub at : (q x : ℕ) → q < g.states → set_at sets q x ≡ (ltb x g.states && any g.symbols (leads_to g x q))

pub preceding : {g : Automaton} (size : ℕ) (none : StateSet) {sets : List StateSet} → g.states ≤ size → ((q : ℕ) → member none q ≡ false)
    → Placed (λ p a. g.next p a) g.symbols (λ p. ltb p g.states) (replicate size none) sets → Preceding g sets
preceding size none room empty P = record { at = λ q x l. P.at q x ∙ rw (set_all size none q x (omega (arith, l, room)), empty x) }
