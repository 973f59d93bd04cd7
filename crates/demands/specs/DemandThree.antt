-- Demand 3 as one claim about an accepted table, any two fault sets F and G, a reading d and an area of any length.
use Rattle.std.specs.Prelude.{◌≡◌, false, ◌||◌, List, ◌∷◌, ◌↔◌, ℕ}
use Rattle.std.proofs.Math.Option.{none, some}
use Rattle.theory.specs.Answer.{answered}
use Rattle.theory.specs.Faults.{holds, repetition, together}
use Rattle.theory.specs.Series.{Series}
use Rattle.theory.specs.Extent.{Extent, number, missing, smaller, AtMost}
use Rattle.theory.specs.Distance.{Joined, Distance, DistanceOfSeveral, FirstWitness, reads, faults_of}
use Rattle.theory.specs.Computed.{distance}
use Rattle.monitor.specs.Format.{monitor_of}
use Rattle.witness.specs.Figures.{WitnessFigures, FaultFigures}
use Rattle.immunity.specs.Findings.{fault_answer, fault_trace}
use Rattle.demands.specs.DemandTwo.{Askable, Found, Told}

-- what values say of a distance
pub record Tells (values : FaultFigures) (e : Extent) : Type 0 where
  -- there are none exactly if it is missing
  pub none_missing : (values ≡ none) ↔ (e ≡ missing)
  -- and else their first number is the distance
  pub first_number : (w : WitnessFigures) → values ≡ some w
      → (l : ℕ) × (others : List ℕ) × (w.numbers ≡ l ∷ others) × (e ≡ number l)

-- `limit` is the greatest number of states
pub record DemandThree (limit : ℕ) (b : List ℕ) (F G d : ℕ) : Type 0 where
  -- the distance is the length of the shortest harmed sent trace, or missing; there is no other
  pub shortest : Distance (monitor_of b) d F (distance (monitor_of b) d F)
  pub only : (e : Extent) → Distance (monitor_of b) d F e → e ≡ distance (monitor_of b) d F
  -- an answer, with an area of any length, tells it, with the first witness
  pub tells : (room : ℕ) (values : FaultFigures) → fault_answer limit b F d room ≡ answered values
      → Tells values (distance (monitor_of b) d F)
  pub answers : (room : ℕ) (values : FaultFigures) → fault_answer limit b F d room ≡ answered values
      → Found (monitor_of b) d F values (fault_trace b F d)
  -- the fault question is answered where the area lent holds the first witness; there is no other first
  pub given : Askable F d → (s : Series) → FirstWitness (monitor_of b) d F s
      → Told (monitor_of b) d (fault_answer limit b F d) (fault_trace b F d) s
  pub first : (s t : Series) → FirstWitness (monitor_of b) d F s → FirstWitness (monitor_of b) d F t → s ≡ t
  -- it is missing exactly if no two joined traces read differently
  pub joined : (distance (monitor_of b) d F ≡ missing)
      ↔ ((x y : List ℕ) → Joined (monitor_of b).automaton (faults_of (monitor_of b) F) x y
      → reads (monitor_of b) d x ≡ reads (monitor_of b) d y)
  -- "Two sets together hold each fault that is in either", and no other: it is the smaller of the two distances
  pub either : (c : ℕ) → holds (together F G) c ≡ (holds F c || holds G c)
  pub both : distance (monitor_of b) d (together F G)
      ≡ smaller (distance (monitor_of b) d F) (distance (monitor_of b) d G)
  -- in a set without repetition it stays the same when any number of faults is allowed in place of one
  pub several : holds F repetition ≡ false → DistanceOfSeveral (monitor_of b) d F (distance (monitor_of b) d F)
  -- under the six classes it is never greater than under the three marks
  pub six : AtMost (distance (monitor_of b) 6 F) (distance (monitor_of b) 3 F)
