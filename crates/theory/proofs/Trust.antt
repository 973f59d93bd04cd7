-- Trusted verdicts: no witness against a verdict exactly if it is trusted; all trusted exactly if immune; one fault stands for any number.
use mathlib.Core.Path.{◌≡◌, refl, ap, ◌∙◌}
use mathlib.Core.Bool.{Bool, true, false, not}
use mathlib.Core.List.{List}
use mathlib.Core.Logic.{◌↔◌, ◌⊎◌, inl, inr, ⊎_elim}
use mathlib.Core.Option.{none, some}
use Prim.Native.Nat.{ℕ, zero, suc, ◌<◌}
use native.Mathlib.Omega.{arith}
use lib.Dec.{eqb}
use borrow.Author.Tests.{eqb-true, eqb-false, eq-eqb, ne_eqb, not-true}
use Rattle.theory.specs.Automaton.{Automaton, run, leads}
use Rattle.theory.specs.Monitor.{Monitor, WellFormed, class_from, class, reading, verdicts_of, marked}
use Rattle.theory.specs.Faults.{FaultStep}
use Rattle.theory.specs.Series.{Series, sent_trace, received_trace}
use Rattle.theory.specs.Distance.{Chained, end, then, reads, faults_of}
use Rattle.theory.specs.Trust.{Trusted, TrustedUnderAny, Misreading, FirstMisreading}
use Rattle.theory.specs.Computed.{misread, first_misreading}
use Rattle.theory.proofs.Below.{and_left, and_right, and_both}
use Rattle.theory.proofs.Reach.{run_in}
use Rattle.theory.proofs.Faults.{steps_good, steps_rise}
use Rattle.theory.proofs.Witness.{Harm, first_harms, none_harms, found_none}
use Rattle.theory.proofs.Distance.{Immune, differ_not, alike_or_differ, received_is_trace, first_alone}

module _ (m : Monitor) (d v : ℕ) where
  abbrev g : Automaton
  g = m.automaton

  -- what the test says of two states
  pub misread_says : (p q : ℕ) → misread m d v p q ≡ true → (reading m d q ≡ v) × (reading m d p ≡ v → ⊥)
  misread_says p q e =
      let there = eqb (reading m d q) v in
      let here = eqb (reading m d p) v in (
        eqb-true (reading m d q) v (and_left there (not here) e),
        eqb-false (reading m d p) v (not-true here (and_right there (not here) e)),
      )

  pub misread_is : (p q : ℕ) → reading m d q ≡ v → (reading m d p ≡ v → ⊥) → misread m d v p q ≡ true
  misread_is p q there here =
      and_both (eqb (reading m d q) v) (not (eqb (reading m d p) v)) (eq-eqb (reading m d q) v there) (ap not (ne_eqb (reading m d p) v here))

  module _ (set : ℕ) where
    abbrev F : List FaultStep
    F = faults_of m set

    -- ---- one fault stands for any number

    chain_trusted : Trusted m d set v → {x y : List ℕ} → Chained g F x y → reads m d y ≡ v → reads m d x ≡ v
    chain_trusted t (end w) e = e
    chain_trusted t (then {x} {y} {z} f c) e = t x y f (chain_trusted t c e)

    pub one_for_any : Trusted m d set v ↔ TrustedUnderAny m d set v
    one_for_any = (
      λ t x y c. chain_trusted t c,
      λ t x y f. t x y (then f (end (received_is_trace g F (steps_good g set) f))),
    )

    -- ---- the first witness against the verdict

    module _ {limit : ℕ} (w : WellFormed limit m) where
      abbrev Harms : Series → Type 0
      Harms = Harm g (misread m d v) F m.start

      harms_misreading : (s : Series) → Harms s → Misreading m d set v s
      harms_misreading s h =
          let e = misread_says (run g m.start (sent_trace s)) (run g m.start (received_trace s)) h.harms in
          record { valid = h.valid; received = e.0; sent = e.1 }

      misreading_harms : (s : Series) → Misreading m d set v s → Harms s
      misreading_harms s h =
          record { valid = h.valid; harms = misread_is (run g m.start (sent_trace s)) (run g m.start (received_trace s)) h.received h.sent }

      -- the computed series is the first
      pub misreading_first : (s : Series) → first_misreading m d set v ≡ some s → FirstMisreading m d set v s
      misreading_first s e =
          let f = first_harms g (misread m d v) F w.closed (steps_good g set) m.start w.start_in (steps_rise set g.symbols) s e in
          record { misreading = harms_misreading s f.harm; first = λ t h. f.precedes t (misreading_harms t h) }

      -- there is none exactly if the verdict is trusted
      none_trusted : first_misreading m d set v ≡ none → Trusted m d set v
      none_trusted e x y f h = go (eqb (reads m d x) v) refl
        where
          go : (b : Bool) → eqb (reads m d x) v ≡ b → reads m d x ≡ v
          go true k = eqb-true (reads m d x) v k
          go false k =
              let s = f.by in
              let ex = f.is_sent in
              let ey = f.is_received in
              absurd (none_harms g (misread m d v) F w.closed (steps_good g set) m.start w.start_in e s
              (misreading_harms s (record {
                valid = f.valid;
                received = rw ey at h;
                sent = λ z. eqb-false (reads m d x) v k (rw ex z);
              })))

      trusted_none : Trusted m d set v → first_misreading m d set v ≡ none
      trusted_none t =
          found_none g (misread m d v) F w.closed (steps_good g set) m.start w.start_in
          (λ s h. (let k = harms_misreading s h in
          k.sent (t (sent_trace s) (received_trace s) (record { by = s; valid = k.valid; is_sent = refl; is_received = refl }) k.received)))

      pub trusted_exactly : (first_misreading m d set v ≡ none) ↔ Trusted m d set v
      trusted_exactly = (none_trusted, trusted_none)

    -- there is only one first
    pub misreading_only : (s t : Series) → FirstMisreading m d set v s → FirstMisreading m d set v t → s ≡ t
    misreading_only s t a b = first_alone s t (a.first t b.misreading) (b.first s a.misreading)

-- ---- all verdicts of a reading

class_below : (v : ℕ) (t f : Bool) → class_from v t f < 6
class_below zero true true = omega arith
class_below zero true false = omega arith
class_below zero false true = omega arith
class_below zero false false = omega arith
class_below (suc zero) t f = omega arith
class_below (suc (suc v)) t f = omega arith

module _ {limit : ℕ} {m : Monitor} (w : WellFormed limit m) where
  -- what a state reads is a verdict of the reading
  pub reading_below : (d p : ℕ) → (d ≡ 3) ⊎ (d ≡ 6) → p < m.automaton.states → reading m d p < verdicts_of d
  unfolding reading class
  reading_below d p (inl e) l = rw e (let x = w.verdict_in p l in omega (arith, x))
  reading_below d p (inr e) l = rw e (class_below (m.verdict p) (leads m.automaton (marked m 1) p) (leads m.automaton (marked m 2) p))

  -- a table is immune exactly if every verdict of the reading is trusted
  pub all_trusted : (d set : ℕ) → (d ≡ 3) ⊎ (d ≡ 6) → Immune m d set ↔ ((v : ℕ) → v < verdicts_of d → Trusted m d set v)
  all_trusted d set k = (
    λ im v l x y f e.
        ⊎_elim (λ (same : reads m d x ≡ reads m d y). same ∙ e) (λ h. absurd (im x (record { received = y; fault = f; differs = h })))
        (alike_or_differ m d x y),
    λ all x h.
        let y = h.received in
        let g = m.automaton in
        let in-states = run_in w.closed m.start y w.start_in (received_is_trace g (faults_of m set) (steps_good g set) h.fault) in
        differ_not m d x y h.differs (all (reads m d y) (reading_below d (run g m.start y) k in-states) x y h.fault refl),
  )
