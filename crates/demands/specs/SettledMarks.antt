-- Settled marks (02, note 5) as one claim about an accepted table.
use Rattle.std.specs.Prelude.{◌≡◌, List, ◌↔◌, ℕ, ◌≤◌, ◌<◌}
use Rattle.theory.specs.Monitor.{WellFormed, Finds, class, monitorability, states_reached}
use Rattle.theory.specs.Settled.{Settles, CountsAs, Becomes}
use Rattle.monitor.specs.Format.{states_of, symbols_of, settled_marks, marks, nexts, drawn_of, monitor_of}

-- `limit` is the greatest number of states
pub record SettledMarks (limit : ℕ) (b : List ℕ) : Type 0 where
  -- the mark that readings go by is what the mark drawn counts as, at every state, reached or not; there is no other
  pub exactly : (q : ℕ) → q < states_of b
      → (v : ℕ) → CountsAs (drawn_of b).automaton (drawn_of b).verdict q v ↔ (v ≡ (monitor_of b).verdict q)
  -- where some number of messages is enough, one below the number of states is
  pub early : (q v : ℕ) → q < states_of b → 0 < v → Settles (drawn_of b).automaton (drawn_of b).verdict v q
      → (s : Settles (drawn_of b).automaton (drawn_of b).verdict v q) × (s.number < states_of b)
  -- true and false exclude each other
  pub one : (q v u : ℕ) → q < states_of b → 0 < v → 0 < u → Settles (drawn_of b).automaton (drawn_of b).verdict v q
      → Settles (drawn_of b).automaton (drawn_of b).verdict u q → v ≡ u
  -- true and false stay as drawn
  pub stays : (q : ℕ) → q < states_of b → 0 < (drawn_of b).verdict q → (monitor_of b).verdict q ≡ (drawn_of b).verdict q
  -- settled marks are kept by every step: the table with them is well formed
  pub kept : WellFormed limit (monitor_of b)
  -- settling twice is settling once
  pub twice : settled_marks (states_of b) (symbols_of b) (marks b) (nexts b) ≡ marks b
  -- a class changes only from positive to good and from negative to bad
  pub classes : (q : ℕ) → q < states_of b → Becomes (class (drawn_of b) q) (class (monitor_of b) q)
  -- what can be found does not change, nor do the monitorability and the number of states reached
  pub found : (q v : ℕ) → q < states_of b → 0 < v → v ≤ 2 → Finds (drawn_of b) v q ↔ Finds (monitor_of b) v q
  pub table : monitorability (monitor_of b) ≡ monitorability (drawn_of b)
  pub reached : states_reached (monitor_of b) ≡ states_reached (drawn_of b)
