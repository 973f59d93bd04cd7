-- Automata without start and output: traces, the state reached, and which states can be reached.
use Rattle.std.specs.Prelude.{◌≡◌, Bool, ◌||◌, List, [], ◌∷◌, ℕ, zero, suc, ◌<◌, eqb}
use Rattle.theory.specs.Below.{any, every}

-- n states, k symbols (01's messages) and the successor (next state) of a state under a symbol; all count from 0
pub record Automaton : Type 0 where
  pub states : ℕ
  pub symbols : ℕ
  pub next : ℕ → ℕ → ℕ

-- no symbol leads out of the states
pub record Closed (g : Automaton) : Type 0 where
  pub next_in : (q a : ℕ) → q < g.states → a < g.symbols → g.next q a < g.states

-- "a finite series of the table's messages, the empty one included"
unfoldable pub Trace : Automaton → List ℕ → Type 0
Trace g [] = Unit {0}
Trace g (a ∷ w) = (a < g.symbols) × Trace g w

-- the state reached from q
unfoldable pub run : Automaton → ℕ → List ℕ → ℕ
run g q [] = q
run g q (a ∷ w) = run g (g.next q a) w

-- p "can be reached" from q: some trace leads there; the empty one leads to q itself
pub record Reaches (g : Automaton) (q p : ℕ) : Type 0 where
  pub word : List ℕ
  pub trace : Trace g word
  pub arrives : run g q word ≡ p

-- some trace of at most r symbols leads from q to a state that passes the test
unfoldable pub within : Automaton → (ℕ → Bool) → ℕ → ℕ → Bool
within g f zero q = f q
within g f (suc r) q = f q || any g.symbols (λ a. within g f r (g.next q a))

-- some trace of any length leads from q to a state that passes the test: with n states, n symbols are enough
-- (proofs/Reach.antt)
unfoldable pub leads : Automaton → (ℕ → Bool) → ℕ → Bool
leads g f q = within g f g.states q

-- every trace of r symbols leads from q to or through a state that passes the test
unfoldable pub inevitable_within : Automaton → (ℕ → Bool) → ℕ → ℕ → Bool
inevitable_within g f zero q = f q
inevitable_within g f (suc r) q = f q || every g.symbols (λ a. inevitable_within g f r (g.next q a))

-- every trace of some length does: with n states, n symbols are enough (proofs/Inevitable.antt)
abbrev pub inevitable : Automaton → (ℕ → Bool) → ℕ → Bool
inevitable g f q = inevitable_within g f g.states q

-- p can be reached from q, as a test of p
abbrev pub reached_from : Automaton → ℕ → ℕ → Bool
reached_from g q p = leads g (eqb p) q
