-- The starred facts of 01 as a list, that on H as 02 has it, and what each one says in terms of the published
-- definitions.
use Rattle.std.specs.Prelude.{◌≡◌, List, [], ◌∷◌, ℕ, length}
use Rattle.theory.specs.Answer.{answered}
use Rattle.theory.specs.Monitor.{Monitor, Class, Monitorability, state_limit}
use Rattle.theory.specs.Series.{Series, sent_trace}
use Rattle.theory.specs.Extent.{number, missing}
use Rattle.theory.specs.Distance.{Distance, FirstWitness}
use Rattle.monitor.specs.Format.{monitor_of}
use Rattle.monitor.specs.Questions.{no_values, judge_answer}

-- the tables, in bytes: A (F p), B (G p), C (p U q), D (G F p), E (F(p and X p)), G, H
abbrev pub A : List ℕ
A = 2 ∷ 2 ∷ 0 ∷ 0 ∷ 1 ∷ 0 ∷ 1 ∷ 1 ∷ 1 ∷ []

abbrev pub B : List ℕ
B = 2 ∷ 2 ∷ 0 ∷ 0 ∷ 2 ∷ 1 ∷ 0 ∷ 1 ∷ 1 ∷ []

abbrev pub C : List ℕ
C = 3 ∷ 4 ∷ 0 ∷ 0 ∷ 1 ∷ 2 ∷ 2 ∷ 0 ∷ 1 ∷ 1 ∷ 1 ∷ 1 ∷ 1 ∷ 1 ∷ 2 ∷ 2 ∷ 2 ∷ 2 ∷ []

abbrev pub D : List ℕ
D = 1 ∷ 2 ∷ 0 ∷ 0 ∷ 0 ∷ 0 ∷ []

abbrev pub E : List ℕ
E = 3 ∷ 2 ∷ 0 ∷ 0 ∷ 0 ∷ 1 ∷ 0 ∷ 1 ∷ 0 ∷ 2 ∷ 2 ∷ 2 ∷ []

abbrev pub G : List ℕ
G = 5 ∷ 2 ∷ 0 ∷ 0 ∷ 0 ∷ 1 ∷ 0 ∷ 2 ∷ 3 ∷ 1 ∷ 1 ∷ 2 ∷ 2 ∷ 2 ∷ 4 ∷ 3 ∷ 4 ∷ 4 ∷ []

abbrev pub H : List ℕ
H = 2 ∷ 1 ∷ 0 ∷ 0 ∷ 1 ∷ 1 ∷ 1 ∷ []

-- A table has a monitorability, or a state of it has a class. Under a fault set ("loss 1, corruption 2, repeat 4, swap
-- 8") a table is immune, has a distance by one reading, or has a first witness with a sent trace, a number of messages
-- before the fault, and a replacement ("0 except for corruption").
pub data Fact : Type 0 where
  monitorable : (table : List ℕ) (monitorability : ℕ) → Fact
  classed : (table : List ℕ) (state class : ℕ) → Fact
  immune : (table : List ℕ) (set : ℕ) → Fact
  distant : (table : List ℕ) (reading set distance : ℕ) → Fact
  witnessed : (table : List ℕ) (set : ℕ) (sent : List ℕ) (before replacement : ℕ) → Fact

-- the table is accepted
abbrev pub Accepted : List ℕ → Type 0
Accepted b = judge_answer state_limit b ≡ answered no_values

-- where 01 names no reading, the fact is meant under both
abbrev pub UnderBoth : (ℕ → Type 0) → Type 0
UnderBoth P = P 3 × P 6

-- the distance is the length of the sent trace, and the first witness is as said
pub record Witnessed (m : Monitor) (d set : ℕ) (sent : List ℕ) (before replacement : ℕ) : Type 0 where
  pub distance : Distance m d set (number (length sent))
  pub series : Series
  pub first : FirstWitness m d set series
  pub is_sent : sent_trace series ≡ sent
  pub is_before : length series.before ≡ before
  pub is_replacement : series.fault.replacement ≡ replacement

-- the table is accepted, and the fact holds of its monitor
abbrev pub Holds : Fact → Type 0
Holds (monitorable b r) = Accepted b × Monitorability (monitor_of b) r
Holds (classed b q c) = Accepted b × Class (monitor_of b) q c
Holds (immune b set) = Accepted b × UnderBoth (λ d. Distance (monitor_of b) d set missing)
Holds (distant b d set l) = Accepted b × Distance (monitor_of b) d set (number l)
Holds (witnessed b set sent before replacement) =
    Accepted b × UnderBoth (λ d. Witnessed (monitor_of b) d set sent before replacement)

-- every fact of a list holds
abbrev pub Hold : List Fact → Type 0
Hold [] = Unit {0}
Hold (f ∷ fs) = Holds f × Hold fs

-- the starred facts, behind the words of 01
abbrev pub starred : List Fact
starred =
    -- "A is pos, B neg, C both, D none."
    monitorable A 0 ∷ monitorable B 1 ∷ monitorable C 2 ∷ monitorable D 3
    -- "D is immune to set 15. A is immune to repeat and swap."
    ∷ immune D 15 ∷ immune A 12 ∷ immune A 4 ∷ immune A 8
    -- "A, corruption: distance 1, sent 0, replacement 1. C, swap: distance 2, sent 0 2."
    ∷ witnessed A 2 (0 ∷ []) 0 1 ∷ witnessed C 8 (0 ∷ 2 ∷ []) 0 0
    -- "E, repeat: distance 1, sent 1. E, swap: distance 3, sent 0 1 1, fault first."
    ∷ witnessed E 4 (1 ∷ []) 0 0 ∷ witnessed E 8 (0 ∷ 1 ∷ 1 ∷ []) 0 0
    -- "G, corruption: reading 3 gives 2, reading 6 gives 1."
    ∷ distant G 3 2 2 ∷ distant G 6 2 1
    -- "The starred fact on H becomes: state 0 good, immune to everything." (02, note 5)
    ∷ classed H 0 0 ∷ immune H 15 ∷ []
