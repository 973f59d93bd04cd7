-- Fault steps as the search handles them, and what the cheapest of them costs at a state.
use Rattle.std.specs.Prelude.{◌≡◌, Bool, List, [], ◌∷◌, ◌⊎◌, ℕ, ◌+◌, ◌≤◌, ◌<◌, min, eqb, length, take}
use Rattle.theory.specs.Automaton.{Automaton, run}
use Rattle.theory.specs.Faults.{FaultStep}
use Rattle.square.specs.Square.{never, entry}
use Rattle.faults.specs.declared.Symbols.{Symbols}
use Rattle.faults.specs.declared.Fault.{Fault}
use Rattle.faults.specs.Kinds.{bit_of}

-- the symbols as a trace
abbrev pub trace_of : Symbols → List ℕ
trace_of s = take s.count (s.first ∷ s.second ∷ [])

-- the fault step that a fault stands for
abbrev pub step_for : Fault → FaultStep
step_for f = record {
  kind = bit_of f.kind;
  sent = trace_of f.sent;
  received = trace_of f.received;
  replacement = f.replacement;
}

-- at most two symbols, each below k
pub record Inside (k : ℕ) (s : Symbols) : Type 0 where
  pub count_most : s.count ≤ 2
  pub first_in : s.first < k
  pub second_in : s.second < k

-- a fault whose symbols are below k
pub record Ranged (k : ℕ) (f : Fault) : Type 0 where
  pub sent_in : Inside k f.sent
  pub received_in : Inside k f.received

-- l symbols and then as many as e notes; no more than never
abbrev pub plus : ℕ → ℕ → ℕ
plus l e = min (l + e) never

-- the fewest symbols sent from p by a harmful series that begins with the fault step s, by the square
abbrev pub cost_of : Automaton → List ℕ → ℕ → FaultStep → ℕ
cost_of g square p s = plus (length s.sent) (entry square (run g p s.sent) (run g p s.received))

-- the fault step s costs this at p
abbrev pub costing : Automaton → List ℕ → ℕ → ℕ → FaultStep → Bool
costing g square p cost s = eqb (cost_of g square p s) cost

-- some of these fault steps costs this at p
pub record Attained (g : Automaton) (square : List ℕ) (p : ℕ) (These : FaultStep → Type 0) (cost : ℕ) : Type 0 where
  pub step : FaultStep
  pub of : These step
  pub costs : cost_of g square p step ≡ cost

-- none of these fault steps costs less, unless that is above the bound, and, where the cost is not never, one has it
pub record Cheapest (g : Automaton) (square : List ℕ) (p : ℕ) (These : FaultStep → Type 0) (bound cost : ℕ)
    : Type 0 where
  pub most : cost ≤ never
  pub least : (s : FaultStep) → These s → (cost ≤ cost_of g square p s) ⊎ (bound < cost_of g square p s)
  pub attained : cost < never → Attained g square p These cost
