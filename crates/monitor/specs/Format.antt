-- A table as bytes. A body is any list of numbers, whether or not they are bytes.
use Rattle.std.specs.Prelude.{◌≡◌, List, ℕ, ◌+◌, ◌*◌, ◌≤◌, ◌<◌, length, get_or, take, drop}
use Rattle.theory.specs.Below.{values}
use Rattle.theory.specs.Automaton.{Automaton}
use Rattle.theory.specs.Monitor.{Monitor, WellFormed, symbol_limit}
use Rattle.theory.specs.Settled.{settled_mark}

-- "Byte 0 is n, the number of states."
abbrev pub states_of : List ℕ → ℕ
states_of b = get_or b 0 0

-- "Byte 1 is k, the number of messages."
abbrev pub symbols_of : List ℕ → ℕ
symbols_of b = get_or b 1 0

-- "Byte 2 is the start state."
abbrev pub start_of : List ℕ → ℕ
start_of b = get_or b 2 0

-- "Then come n marks": as drawn, for questions 6 and 8
abbrev pub drawn_marks : List ℕ → List ℕ
drawn_marks b = take (states_of b) (drop 3 b)

-- "Then n times k next states, row by row, message 0 first."
abbrev pub nexts : List ℕ → List ℕ
nexts b = drop (3 + states_of b) b

-- the automaton of n states and k symbols whose next states stand row by row in ts
abbrev pub automaton_of : ℕ → ℕ → List ℕ → Automaton
automaton_of n k ts = record { states = n; symbols = k; next = λ q a. get_or ts (q * k + a) 0 }

-- with the start s and the marks vs
abbrev pub table_of : ℕ → ℕ → ℕ → List ℕ → List ℕ → Monitor
table_of n k s vs ts = record { automaton = automaton_of n k ts; start = s; verdict = λ q. get_or vs q 0 }

-- the settled marks of n states with k symbols, of the marks vs as drawn: where every step keeps vs, as question 8
-- asks, they are those of 02's note 5 (theory/proofs/Settled.antt)
abbrev pub settled_marks : ℕ → ℕ → List ℕ → List ℕ → List ℕ
settled_marks n k vs ts = values n (settled_mark (automaton_of n k ts) (λ q. get_or vs q 0))

-- "Both readings, the classes, the count of Note 1 and the distances use these settled marks."
abbrev pub marks : List ℕ → List ℕ
marks b = settled_marks (states_of b) (symbols_of b) (drawn_marks b) (nexts b)

-- the monitor as it is drawn
abbrev pub drawn_of : List ℕ → Monitor
drawn_of b = table_of (states_of b) (symbols_of b) (start_of b) (drawn_marks b) (nexts b)

-- the monitor that a body stands for, by its settled marks
abbrev pub monitor_of : List ℕ → Monitor
monitor_of b = table_of (states_of b) (symbols_of b) (start_of b) (marks b) (nexts b)

-- what functions below the entry points require of next states handed to them
pub record Rows (limit n k : ℕ) (ts : List ℕ) : Type 0 where
  pub states_most : n ≤ limit
  pub symbols_most : k ≤ symbol_limit
  pub rows_length : length ts ≡ n * k
  pub inside : (i : ℕ) → i < length ts → get_or ts i 0 < n

-- and of marks and next states together
pub record Table (limit n k s : ℕ) (vs ts : List ℕ) : Type 0 where
  pub rows : Rows limit n k ts
  pub marks_length : length vs ≡ n
  pub well_formed : WellFormed limit (table_of n k s vs ts)
