-- Which bodies are accepted: those that are a well formed table as bytes, and no others. As one claim about any body.
use Rattle.std.specs.Prelude.{◌≡◌, true, List, ◌∷◌, ◌++◌, ◌↔◌, ℕ, ◌<◌}
use Rattle.theory.specs.Below.{values}
use Rattle.theory.specs.Lists.{each}
use Rattle.theory.specs.Answer.{answered}
use Rattle.theory.specs.Monitor.{Monitor, WellFormed}
use Rattle.monitor.specs.Format.{drawn_of}
use Rattle.monitor.specs.Questions.{head_questions, question8, no_values, judge_answer}
use Rattle.demands.specs.DemandOne.{AllYes}

-- "Byte 0 is n, the number of states. Byte 1 is k, the number of messages. Byte 2 is the start state. Then come n marks
-- [..]. Then n times k next states, row by row, message 0 first."
abbrev pub table_bytes : Monitor → List ℕ
table_bytes m =
    m.automaton.states
    ∷ m.automaton.symbols
    ∷ m.start
    ∷ (values m.automaton.states m.verdict
    ++ each m.automaton.states (λ q. values m.automaton.symbols (m.automaton.next q)))

-- the body is a well formed table as bytes
pub record Encodes (limit : ℕ) (b : List ℕ) : Type 0 where
  pub table : Monitor
  pub well_formed : WellFormed limit table
  pub bytes : b ≡ table_bytes table

-- two tables are the same in what a body says of them
pub record SameTable (m other : Monitor) : Type 0 where
  pub states : m.automaton.states ≡ other.automaton.states
  pub symbols : m.automaton.symbols ≡ other.automaton.symbols
  pub start : m.start ≡ other.start
  pub marks : (q : ℕ) → q < m.automaton.states → m.verdict q ≡ other.verdict q
  pub nexts : (q a : ℕ) → q < m.automaton.states → a < m.automaton.symbols
      → m.automaton.next q a ≡ other.automaton.next q a

-- the marks are kept by every step
abbrev pub Kept : Monitor → Type 0
Kept m =
    (q a : ℕ) → q < m.automaton.states → a < m.automaton.symbols → 0 < m.verdict q
    → m.verdict (m.automaton.next q a) ≡ m.verdict q

-- `limit` is the greatest number of states
pub record Tables (limit : ℕ) (b : List ℕ) : Type 0 where
  -- a body is accepted exactly if it is a well formed table as bytes
  pub accepts : (judge_answer limit b ≡ answered no_values) ↔ Encodes limit b
  -- of one table alone: the one that is read from it
  pub only : (m : Monitor) → b ≡ table_bytes m → SameTable m (drawn_of b)
  -- "Does a state marked true step only to such states, and likewise false, unreachable states included?": question 8,
  -- of a body whose sizes and start are as they must be, is yes exactly if the marks drawn are kept by every step
  pub kept : AllYes (head_questions limit b) → ((question8 b).yes ≡ true) ↔ Kept (drawn_of b)
