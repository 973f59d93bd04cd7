-- Harm done by faults, joined traces, the distance of a table, and the first witness: "by table, set and reading, and
-- by nothing that the search notes down".
use Rattle.std.specs.Prelude.{◌≡◌, Bool, true, not, List, ◌⊎◌, ℕ, eqb}
use Rattle.theory.specs.Extent.{Extent, ShortestLength}
use Rattle.theory.specs.Automaton.{Automaton, Trace, run}
use Rattle.theory.specs.Monitor.{Monitor, reading}
use Rattle.theory.specs.Faults.{FaultStep, steps}
use Rattle.theory.specs.Series.{Series, Valid, sent_trace, received_trace, Precedes}

-- ---- traces and faults

module _ (g : Automaton) (faults : List FaultStep) where
  -- "one fault of the set, at any one place in it, makes of it a received trace"
  pub record Faulted (sent received : List ℕ) : Type 0 where
    pub by : Series
    pub valid : Valid g faults by
    pub is_sent : sent ≡ sent_trace by
    pub is_received : received ≡ received_trace by

  -- "a series of traces leads from one to the other in which, of every two neighbours, one is the other after one fault
  -- of the set; each trace is joined to itself"
  pub data Joined : List ℕ → List ℕ → Type 0 where
    itself : {x : List ℕ} → Trace g x → Joined x x
    forth : {x y z : List ℕ} → Faulted x y → Joined y z → Joined x z
    back : {x y z : List ℕ} → Faulted y x → Joined y z → Joined x z

  -- "a series of traces starts with it, each next one is the one before after one fault of the set"
  pub data Chained : List ℕ → List ℕ → Type 0 where
    end : {x : List ℕ} → Trace g x → Chained x x
    then : {x y z : List ℕ} → Faulted x y → Chained y z → Chained x z

  module _ (ends : ℕ → ℕ → Bool) (q : ℕ) where
    -- one fault makes of it a received trace, and the two states reached from q pass the test
    pub record HarmedFrom (sent : List ℕ) : Type 0 where
      pub received : List ℕ
      pub fault : Faulted sent received
      pub differs : ends (run g q sent) (run g q received) ≡ true

-- ---- a table, a fault set and a reading

-- two states read differently under reading d
abbrev pub differ : Monitor → ℕ → ℕ → ℕ → Bool
differ m d p q = not (eqb (reading m d p) (reading m d q))

-- what a trace reads: the reading of the state reached from the start
abbrev pub reads : Monitor → ℕ → List ℕ → ℕ
reads m d w = reading m d (run m.automaton m.start w)

-- the fault steps of a set on the table's symbols
abbrev pub faults_of : Monitor → ℕ → List FaultStep
faults_of m set = steps set m.automaton.symbols

-- "a sent trace is harmed if one fault of the set, at any one place in it, makes of it a received trace with another
-- reading"
abbrev pub Harmed : Monitor → ℕ → ℕ → List ℕ → Type 0
Harmed m d set = HarmedFrom m.automaton (faults_of m set) (differ m d) m.start

-- "Several faults harm a sent trace if a series of traces starts with it, [..] and the last has another reading than
-- the first."
pub record HarmedBySeveral (m : Monitor) (d set : ℕ) (sent : List ℕ) : Type 0 where
  pub last : List ℕ
  pub chain : Chained m.automaton (faults_of m set) sent last
  pub differs : differ m d (run m.automaton m.start sent) (run m.automaton m.start last) ≡ true

-- "The distance is the length of the shortest harmed sent trace, and missing if there is none."
abbrev pub Distance : Monitor → ℕ → ℕ → Extent → Type 0
Distance m d set = ShortestLength (Harmed m d set)

-- "With any number of faults allowed, the distance is the length of the shortest sent trace harmed so, and missing if
-- there is none."
abbrev pub DistanceOfSeveral : Monitor → ℕ → ℕ → Extent → Type 0
DistanceOfSeveral m d set = ShortestLength (HarmedBySeveral m d set)

-- ---- witnesses

-- "A witness is a series of steps [..] After the series the sent and received readings differ."
pub record Witness (m : Monitor) (d set : ℕ) (s : Series) : Type 0 where
  pub valid : Valid m.automaton (faults_of m set) s
  pub differs : reads m d (sent_trace s) ≡ reads m d (received_trace s) → ⊥

-- the witness that the written order puts first
pub record FirstWitness (m : Monitor) (d set : ℕ) (s : Series) : Type 0 where
  pub witness : Witness m d set s
  pub first : (t : Series) → Witness m d set t → (t ≡ s) ⊎ Precedes s t
