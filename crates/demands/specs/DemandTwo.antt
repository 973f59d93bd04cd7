-- Demand 2: classes and monitorability are the published ones; immune is said exactly if no trace is harmed, else the
-- first witness is told, a shortest one; and the card says so of each fault alone.
use Rattle.std.specs.Prelude.{◌≡◌, true, List, [], ◌∷◌, ◌++◌, ◌↔◌, ◌⊎◌, ℕ, ◌^◌, ◌≤◌, ◌<◌, length, get_or, drop}
use Rattle.std.proofs.Math.Option.{none, some}
use Rattle.theory.specs.Answer.{Answer, refused, answered, written}
use Rattle.theory.specs.Automaton.{Reaches}
use Rattle.theory.specs.Monitor.{Monitor, Class, Monitorability, monitorability, reached, states_reached, reading}
use Rattle.theory.specs.Faults.{kinds, all_faults}
use Rattle.theory.specs.Series.{Series, sent_trace}
use Rattle.theory.specs.Extent.{number}
use Rattle.theory.specs.Distance.{Harmed, Distance, FirstWitness}
use Rattle.monitor.specs.Format.{states_of, monitor_of}
use Rattle.classes.specs.Classify.{class_list, classify_answer}
use Rattle.witness.specs.Figures.{FaultFigures, series_figures}
use Rattle.immunity.specs.Findings.{fault_answer, fault_trace, card_answer}
use Rattle.demands.specs.DemandOne.{column_of}

-- what is answered of the states, for an area of `room` bytes, is what the published definitions say
pub record Published (limit : ℕ) (b : List ℕ) (room : ℕ) : Type 0 where
  -- each state has exactly one class of definition 8: the byte written for it
  pub classes : (q : ℕ) → q < states_of b
      → (c : ℕ) → Class (monitor_of b) q c ↔ (c ≡ get_or (class_list (monitor_of b)) q 0)
  -- the table has exactly one monitorability of definition 10 and lemma 3
  pub table : (r : ℕ) → Monitorability (monitor_of b) r ↔ (r ≡ monitorability (monitor_of b))
  -- the states reached are those that some trace leads to, all of them states
  pub inside : (q : ℕ) → Reaches (monitor_of b).automaton (monitor_of b).start q → q < states_of b
  pub reaches : (q : ℕ) → (reached (monitor_of b) q ≡ true) ↔ Reaches (monitor_of b).automaton (monitor_of b).start q
  -- where the area has a byte for each state, the answer is the monitorability and the number of states reached
  pub answer : states_of b ≤ room
      → classify_answer limit b room ≡ answered (monitorability (monitor_of b) ∷ states_reached (monitor_of b) ∷ [])

-- questions 9 and 10 are answered yes: the fault set is at most 15, and the reading is 3 or 6
pub record Askable (set d : ℕ) : Type 0 where
  pub set_most : set ≤ all_faults
  pub reading_known : (d ≡ 3) ⊎ (d ≡ 6)

-- no trace is harmed
abbrev pub Unharmed : Monitor → ℕ → ℕ → Type 0
Unharmed m d set = (w : List ℕ) → ¬ (Harmed m d set w)

-- what the values of an answer and the bytes written with it say: immune, and no trace is harmed;
-- or the figures and the sent trace of the first witness, and no harmed trace is shorter
pub data Found (m : Monitor) (d set : ℕ) : FaultFigures → List ℕ → Type 0 where
  immune : Unharmed m d set → Found m d set none []
  vulnerable : (s : Series) → FirstWitness m d set s → Distance m d set (number (length (sent_trace s)))
      → Found m d set (some (series_figures (reading m d) m s)) (sent_trace s)

-- a question about faults, by what it answers for an area of each length and the bytes of the answer: what is told
-- where s is the first witness
pub record Told (m : Monitor) (d : ℕ) (answer : ℕ → Answer FaultFigures) (bytes : List ℕ) (s : Series) : Type 0 where
  -- an area that holds the sent trace: the figures of s, and "the first bytes of the area with the sent trace"
  pub figures : (room : ℕ) → length (sent_trace s) ≤ room
      → answer room ≡ answered (some (series_figures (reading m d) m s))
  pub trace : (area : List ℕ) → length (sent_trace s) ≤ length area
      → written (answer (length area)) bytes area ≡ sent_trace s ++ drop (length (sent_trace s)) area
  -- a shorter one: "Does the answer fit the area lent for it? 13, place 0."
  pub short : (room : ℕ) → room < length (sent_trace s) → answer room ≡ refused 13 0

-- the card: n and the monitorability, and for each fault alone, in the written order, what is found under reading 3
pub record Carded (limit : ℕ) (b : List ℕ) : Type 0 where
  pub summary : (card_answer limit b).summary ≡ answered (states_of b ∷ monitorability (monitor_of b) ∷ [])
  pub number : length (card_answer limit b).columns ≡ kinds
  pub column : (c : ℕ) → c < kinds
      → (values : FaultFigures) × (column_of (card_answer limit b) c ≡ answered values)
      × Found (monitor_of b) 3 (2 ^ c) values (fault_trace b (2 ^ c) 3)

-- an accepted table, a fault set, a reading and an area of any length; `limit` is the greatest number of states
pub record DemandTwo (limit : ℕ) (b : List ℕ) (set d room : ℕ) : Type 0 where
  -- classes, monitorability and the states reached
  pub published : Published limit b room
  -- immune is said exactly if no trace is harmed
  pub immune_exactly : Askable set d → (fault_answer limit b set d room ≡ answered none) ↔ Unharmed (monitor_of b) d set
  -- else there is a first witness, a shortest one
  pub harmed : ¬ (Unharmed (monitor_of b) d set)
      → (s : Series) × FirstWitness (monitor_of b) d set s
      × Distance (monitor_of b) d set (number (length (sent_trace s)))
  -- which is told where the area lent holds it
  pub witness : Askable set d → (s : Series) → FirstWitness (monitor_of b) d set s
      → Told (monitor_of b) d (fault_answer limit b set d) (fault_trace b set d) s
  -- the card
  pub card : Carded limit b
