-- Which verdicts can be believed, proved of every accepted table, every fault set, both readings and every verdict.
use mathlib.Core.Path.{◌≡◌, refl, ap, ◌∙◌, subst}
use mathlib.Core.List.{List, [], ◌++◌}
use mathlib.Core.Option.{Option, none, some}
use Prim.Native.Nat.{ℕ, ◌<◌, zero-le}
use native.Mathlib.Omega.{arith}
use borrow.Author.Tests.{le-leb, lt-ltb}
use Rattle.theory.specs.Answer.{answered, asks}
use Rattle.theory.specs.Monitor.{Monitor, WellFormed, reading, verdicts_of}
use Rattle.theory.specs.Faults.{all_faults}
use Rattle.theory.specs.Series.{Series, sent_trace, received_trace}
use Rattle.theory.specs.Trust.{Trusted, FirstMisreading}
use Rattle.theory.specs.Computed.{first_misreading}
use Rattle.theory.proofs.Answer.{asks_values}
use Rattle.theory.proofs.Trust.{trusted_exactly, misreading_first, misreading_only, one_for_any, all_trusted}
use Rattle.monitor.specs.Format.{monitor_of}
use Rattle.monitor.specs.Questions.{judge_answer, table_questions}
use Rattle.monitor.proofs.Accepted.{accepted_table, accepted_asks}
use Rattle.witness.specs.Figures.{FaultFigures, witness_figures, witness_trace, room_questions}
use Rattle.trust.specs.Trust.{trust_figures, trust_questions, trust_answer, trust_trace}
use Rattle.demands.specs.DemandTwo.{Askable, Told}
use Rattle.demands.specs.TrustedVerdicts.{Believed, yes, no, TrustedVerdicts}
use Rattle.demands.proofs.DemandTwo.{known, there, computed_first, asks_told, demand_two}

-- an answer without values says that the verdict is trusted
no_values_lem : {m : Monitor} {d set v : ℕ} {given : FaultFigures} {bytes : List ℕ} → Believed m d set v given bytes → given ≡ none → Trusted m d set v
no_values_lem (yes trusted) e = trusted
no_values_lem (no s first) e = absurd (let z : ◌≡◌ {A = ℕ} 0 1 = cc in omega arith)

module _ (limit : ℕ) (b : List ℕ) (e : judge_answer limit b ≡ answered []) (set d v : ℕ) where
  abbrev m : Monitor
  m = monitor_of b

  w : WellFormed limit m
  w = (accepted_table limit b e).well_formed

  by_outcome : (o : Option Series) → first_misreading m d set v ≡ o → Believed m d set v (witness_figures (reading m d) m o) (witness_trace o)
  by_outcome none h = yes ((trusted_exactly m d v set w).0 h)
  by_outcome (some s) h = no s (misreading_first m d v set w s h)

  tells : (room : ℕ) (values : FaultFigures) → trust_answer limit b set d v room ≡ answered values → Believed m d set v values (trust_trace b set d v)
  unfolding trust_answer
  tells room values a =
      let same = asks_values (table_questions limit b ++ trust_questions set d v (first_misreading m d set v) room) (trust_figures m d set v) a in
      subst (λ (x : FaultFigures). Believed m d set v x (trust_trace b set d v)) same (by_outcome (first_misreading m d set v) refl)

  -- the first witness is the one that is computed
  computed : (s : Series) → FirstMisreading m d set v s → first_misreading m d set v ≡ some s
  computed s f = computed_first (first_misreading m d set v) none_first (misreading_first m d v set w) (misreading_only m d v set) s f
    where
      none_first : first_misreading m d set v ≡ none → ⊥
      none_first h =
          let k = f.misreading in
          k.sent ((trusted_exactly m d v set w).0 h (sent_trace s) (received_trace s)
          (record { by = s; valid = k.valid; is_sent = refl; is_received = refl }) k.received)

  untrusted : ¬ (Trusted m d set v) → (s : Series) × FirstMisreading m d set v s
  untrusted n =
      let t = there (first_misreading m d set v) (λ h. n ((trusted_exactly m d v set w).0 h)) in
      (t.0, misreading_first m d v set w t.0 t.1)

  module _ (a : Askable set d) (l : v < verdicts_of d) where
    -- what is left to be asked is 13
    left : (room : ℕ) → trust_answer limit b set d v room ≡ asks (room_questions (first_misreading m d set v) room) (trust_figures m d set v)
    unfolding trust_answer
    left room =
        accepted_asks limit b (trust_questions set d v (first_misreading m d set v) room) (trust_figures m d set v) e
        ∙ rw (le-leb set all_faults a.set_most, known d a.reading_known, lt-ltb v (verdicts_of d) l)

    given : (s : Series) → FirstMisreading m d set v s → Told m d (trust_answer limit b set d v) (trust_trace b set d v) s
    given s f = (let h = computed s f in asks_told m d s (λ room. left room ∙ rw h) (ap witness_trace h))

    says_yes : (room : ℕ) → Trusted m d set v → trust_answer limit b set d v room ≡ answered none
    says_yes room t = (let h = (trusted_exactly m d v set w).1 t in left room ∙ rw (h, le-leb 0 room zero-le))

pub trusted_verdicts : (limit : ℕ) (b : List ℕ) → judge_answer limit b ≡ answered [] → (set d v : ℕ) → TrustedVerdicts limit b set d v
trusted_verdicts limit b e set d v = record {
  yes_exactly = λ room a l. (λ h. no_values_lem (tells limit b e set d v room none h) refl, says_yes limit b e set d v a l room);
  untrusted = untrusted limit b e set d v;
  given = given limit b e set d v;
  answers = tells limit b e set d v;
  first = misreading_only (monitor_of b) d v set;
  immune = λ room a.
      let said = (demand_two limit b e set d room).immune_exactly a in
      let all = all_trusted (w limit b e set d v) d set a.reading_known in
      (λ h. all.0 (said.0 h), λ t. said.1 (all.1 t));
  any_number = one_for_any (monitor_of b) d v set;
}
