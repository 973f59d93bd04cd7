-- Which verdicts can be believed when they are received (02, note 3; document 000, definition 15): by table, set,
-- reading and verdict, and by nothing that a search notes down.
use Rattle.std.specs.Prelude.{◌≡◌, List, ◌⊎◌, ℕ}
use Rattle.theory.specs.Monitor.{Monitor}
use Rattle.theory.specs.Series.{Series, Valid, sent_trace, received_trace, Precedes}
use Rattle.theory.specs.Distance.{Faulted, Chained, reads, faults_of}

-- "a verdict trustworthy if the received trace reading so means that the sent trace reads so", for every sent trace and
-- every received one that one fault of the set makes of it
abbrev pub Trusted : Monitor → ℕ → ℕ → ℕ → Type 0
Trusted m d set v =
    (sent received : List ℕ) → Faulted m.automaton (faults_of m set) sent received
    → reads m d received ≡ v → reads m d sent ≡ v

-- the same "under any number, each from sent to received"
abbrev pub TrustedUnderAny : Monitor → ℕ → ℕ → ℕ → Type 0
TrustedUnderAny m d set v =
    (sent received : List ℕ) → Chained m.automaton (faults_of m set) sent received
    → reads m d received ≡ v → reads m d sent ≡ v

-- a witness against the verdict: a series "whose received reading is that verdict and whose sent reading is another"
pub record Misreading (m : Monitor) (d set v : ℕ) (s : Series) : Type 0 where
  pub valid : Valid m.automaton (faults_of m set) s
  pub received : reads m d (received_trace s) ≡ v
  pub sent : reads m d (sent_trace s) ≡ v → ⊥

-- "the first witness in 01's order"
pub record FirstMisreading (m : Monitor) (d set v : ℕ) (s : Series) : Type 0 where
  pub misreading : Misreading m d set v s
  pub first : (t : Series) → Misreading m d set v t → (t ≡ s) ⊎ Precedes s t
