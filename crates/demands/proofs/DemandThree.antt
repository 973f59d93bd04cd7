-- Demand 3, proved of every accepted table, any two fault sets, and both readings.
use mathlib.Core.Path.{◌≡◌, refl, sym, ap, subst}
use mathlib.Core.List.{List, [], ◌++◌}
use mathlib.Core.Option.{Option, none, some}
use Prim.Native.Nat.{ℕ}
use native.Mathlib.Omega.{arith}
use lib.ListN.{length}
use Rattle.theory.specs.Answer.{answered}
use Rattle.theory.specs.Monitor.{Monitor, reading}
use Rattle.theory.specs.Series.{Series, sent_trace}
use Rattle.theory.specs.Distance.{Harmed}
use Rattle.theory.specs.Computed.{extent_of, first_witness, distance}
use Rattle.theory.proofs.Lists.{some_same}
use Rattle.theory.proofs.Answer.{asks_values}
use Rattle.theory.proofs.Bits.{bit_or_lem}
use Rattle.theory.proofs.Extent.{shortest_one}
use Rattle.theory.proofs.Distance.{first_only, distance_exact, missing_joined, distance_together, distance_several, six_at_most_three}
use Rattle.monitor.specs.Format.{monitor_of}
use Rattle.monitor.specs.Questions.{judge_answer, table_questions}
use Rattle.monitor.proofs.Accepted.{accepted_table}
use Rattle.witness.specs.Figures.{WitnessFigures, FaultFigures, witness_figures}
use Rattle.immunity.specs.Findings.{fault_questions, table_figures, fault_answer}
use Rattle.demands.specs.DemandThree.{Tells, DemandThree}
use Rattle.demands.proofs.DemandTwo.{tells, given}

-- the figures of a first witness tell how far it is
outcome_tells : (read : ℕ → ℕ) (m : Monitor) (o : Option Series) → Tells (witness_figures read m o) (extent_of o)
outcome_tells read m none = record { none_missing = (λ _. refl, λ _. refl); first_number = λ w e. absurd (let z : ◌≡◌ {A = ℕ} 0 1 = cc in omega arith) }
outcome_tells read m (some s) = record {
  none_missing = (λ e. absurd (let z : ◌≡◌ {A = ℕ} 0 1 = cc in omega arith), λ e. absurd (let z : ◌≡◌ {A = ℕ} 0 1 = cc in omega arith));
  first_number = λ w e. (let same = some_same e in (length (sent_trace s), _, ap (λ (x : WitnessFigures). x.numbers) (sym same), refl));
}

tells_distance : (limit : ℕ) (b : List ℕ) (F d room : ℕ) (values : FaultFigures) → fault_answer limit b F d room ≡ answered values
    → Tells values (distance (monitor_of b) d F)
unfolding fault_answer
tells_distance limit b F d room values a =
    let m = monitor_of b in
    let o = first_witness m d F in
    let same = asks_values (table_questions limit b ++ fault_questions F d o room) (table_figures m d F) a in
    subst (λ (v : FaultFigures). Tells v (distance m d F)) same (outcome_tells (reading m d) m o)

pub demand_three : (limit : ℕ) (b : List ℕ) → judge_answer limit b ≡ answered [] → (F G d : ℕ) → DemandThree limit b F G d
demand_three limit b e F G d =
    let m = monitor_of b in
    let w = (accepted_table limit b e).well_formed in
    record {
      shortest = distance_exact limit m w d F;
      only = λ x h. shortest_one (Harmed m d F) x (distance m d F) h (distance_exact limit m w d F);
      tells = tells_distance limit b F d;
      answers = tells limit b e F d;
      given = given limit b e F d;
      first = first_only m d F;
      joined = missing_joined limit m w d F;
      either = bit_or_lem F G;
      both = distance_together limit m w d F G;
      several = distance_several limit m w d F;
      six = six_at_most_three limit m w F;
    }
