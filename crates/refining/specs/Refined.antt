-- Blocks that are split round by round: what holds after a round.
use Rattle.std.specs.Prelude.{◌≡◌, Bool, true, List, ◌⊎◌, ℕ, ◌≤◌, ◌<◌, get_or}
use Rattle.theory.specs.Automaton.{Automaton}
use Rattle.theory.specs.Monitor.{state_limit}
use Rattle.square.specs.Square.{entry, Stage}
use Rattle.partition.specs.declared.Blocks.{Blocks}
use Rattle.state_set.specs.Member.{set_at}
use Rattle.partition.specs.Blocks.{block, Parts}

-- the outputs of two states differ
abbrev pub Unlike : List ℕ → ℕ → ℕ → Type 0
Unlike outs p q = get_or outs p 0 ≡ get_or outs q 0 → ⊥

-- some symbol leads one of two states into the set, and not the other
abbrev pub LeadsApart : Automaton → (ℕ → Bool) → ℕ → ℕ → Type 0
LeadsApart g set p q = (a : ℕ) × (a < g.symbols) × Parts (λ x. set (g.next x a)) p q

-- a state of the set has its block for itself
pub record Alone (n : ℕ) (set : ℕ → Bool) (blocks : Blocks) : Type 0 where
  pub at : (p q : ℕ) → p < n → q < n → set p ≡ true → block blocks p ≡ block blocks q → p ≡ q

-- the set of one of the blocks has no state but p
pub record Only (blocks : Blocks) (p : ℕ) : Type 0 where
  pub number : ℕ
  pub below : number < blocks.count
  pub here : set_at blocks.members number p ≡ true
  pub sole : (q : ℕ) → q < state_limit → set_at blocks.members number q ≡ true → p ≡ q

-- each block lies in one of the blocks before
pub record Inside (n : ℕ) (blocks blocks' : Blocks) : Type 0 where
  pub were_one : (p q : ℕ) → p < n → q < n → block blocks' p ≡ block blocks' q → block blocks p ≡ block blocks q

-- after r rounds: every entry is as r rounds leave it, and of the states of a pair at r one is in a block from `old` on
pub record Refined (g : Automaton) (ends : ℕ → ℕ → Bool) (r old : ℕ) (square : List ℕ) (blocks : Blocks) : Type 0 where
  pub stage : (p q : ℕ) → p < g.states → q < g.states → Stage g ends r p q (entry square p q)
  pub fresh : (p q : ℕ) → p < g.states → q < g.states → entry square p q ≡ r
      → (old ≤ block blocks p) ⊎ (old ≤ block blocks q)
