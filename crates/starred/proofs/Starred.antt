-- The starred facts hold: each is computed, and the computed numbers are the published ones.
use mathlib.Core.Path.{◌≡◌, refl, ap, subst}
use mathlib.Core.List.{List, [], ◌∷◌, flat_map}
use mathlib.Core.Option.{Option, none, some, map, map-eq-some_iff}
use Prim.Native.Nat.{ℕ, suc, ◌≤◌, ◌<◌}
use lib.Dec.{lit<, lit≤}
use lib.ListN.{length}
use Rattle.theory.specs.Below.{any, first, values}
use Rattle.theory.specs.Lists.{find, each}
use Rattle.theory.specs.Automaton.{Automaton, run, within, leads, inevitable_within}
use Rattle.theory.specs.Monitor.{Monitor, WellFormed, class, monitorability, reading, state_limit}
use Rattle.theory.specs.Settled.{settled_mark}
use Rattle.theory.specs.Pairs.{told}
use Rattle.theory.specs.Faults.{steps}
use Rattle.theory.specs.Series.{Series, sent_trace, harmful, words, series}
use Rattle.theory.specs.Extent.{number, missing}
use Rattle.theory.specs.Distance.{Distance, differ, faults_of}
use Rattle.theory.specs.Computed.{horizon, first_witness, extent_of}
use Rattle.theory.proofs.Faults.{steps_good}
use Rattle.theory.proofs.Witness.{strikes, found_early, found_never}
use Rattle.theory.proofs.Exact.{class_exact, monitorability_exact}
use Rattle.theory.proofs.Distance.{distance_exact, witness_first}
use Rattle.monitor.specs.Format.{states_of, monitor_of}
use Rattle.monitor.specs.Questions.{judge_answer}
use Rattle.monitor.proofs.Accepted.{accepted_table}
use Rattle.starred.specs.Starred.{Fact, monitorable, classed, immune, distant, witnessed, Accepted, UnderBoth, Witnessed, Holds, Hold, starred}

-- ---- what is computed

-- no fault step of the set strikes
abbrev Calm : Monitor → ℕ → ℕ → Type 0
Calm m d set = find (strikes m.automaton (differ m d) m.start) (faults_of m set) ≡ none

-- the first witness with at most l symbols sent
abbrev early : Monitor → ℕ → ℕ → ℕ → Option Series
early m d set l = find (harmful m.automaton (differ m d) m.start) (each (suc l) (series (faults_of m set) m.automaton.symbols))

-- what a fact says of a witness
abbrev said : Series → List ℕ × ℕ × ℕ
said s = (sent_trace s, length s.before, s.fault.replacement)

abbrev Computed : Fact → Type 0
Computed (monitorable b r) = Accepted b × (r ≡ monitorability (monitor_of b))
Computed (classed b q c) = Accepted b × (q < states_of b) × (c ≡ class (monitor_of b) q)
Computed (immune b set) = Accepted b × UnderBoth (λ d. Calm (monitor_of b) d set)
Computed (distant b d set l) = Accepted b × (l ≤ horizon (states_of b)) × (map (λ s. length (sent_trace s)) (early (monitor_of b) d set l) ≡ some l)
Computed (witnessed b set sent before replacement) =
    Accepted b × (length sent ≤ horizon (states_of b))
    × UnderBoth (λ d. map said (early (monitor_of b) d set (length sent)) ≡ some (sent, before, replacement))

-- every fact of a list is computed
infixr 30 ◌also◌
data AllComputed : List Fact → Type 0 where
  end : AllComputed []
  ◌also◌ : {f : Fact} {fs : List Fact} → Computed f → AllComputed fs → AllComputed (f ∷ fs)

-- ---- what is computed holds

module _ {limit : ℕ} (m : Monitor) (w : WellFormed limit m) (d set : ℕ) where
  abbrev g : Automaton
  g = m.automaton

  -- the distance, by the first witness
  far : (o : Option Series) → first_witness m d set ≡ o → Distance m d set (extent_of o)
  far o h = subst (λ (x : Option Series). Distance m d set (extent_of x)) h (distance_exact limit m w d set)

  far_as : (s : Series) → first_witness m d set ≡ some s → {l : ℕ} → length (sent_trace s) ≡ l → Distance m d set (number l)
  far_as s h e = subst (λ (l : ℕ). Distance m d set (number l)) e (far (some s) h)

  immune_by : Calm m d set → Distance m d set missing
  immune_by h = far none (found_never g (differ m d) (faults_of m set) w.closed (steps_good g set) m.start w.start_in h)

  -- what is computed of an early witness is so of the first
  first_by_lem : {X : Type 0} (f : Series → X) (x : X) (l : ℕ) → l ≤ horizon g.states → map f (early m d set l) ≡ some x
      → (s : Series) × (first_witness m d set ≡ some s) × (f s ≡ x)
  first_by_lem f x l within h =
      let r = (map-eq-some_iff f (early m d set l)).0 h in
      (r.0, found_early g (differ m d) (faults_of m set) w.closed (steps_good g set) m.start w.start_in l r.0 within r.1, r.2)

  distant_by : (l : ℕ) → l ≤ horizon g.states → map (λ s. length (sent_trace s)) (early m d set l) ≡ some l → Distance m d set (number l)
  distant_by l within h = (let r = first_by_lem (λ s. length (sent_trace s)) l l within h in far_as r.0 r.1 r.2)

  witnessed_by : (sent : List ℕ) (before replacement : ℕ) → length sent ≤ horizon g.states
      → map said (early m d set (length sent)) ≡ some (sent, before, replacement) → Witnessed m d set sent before replacement
  witnessed_by sent before replacement within h =
      let r = first_by_lem said (sent, before, replacement) (length sent) within h in
      record {
        distance = far_as r.0 r.1 (ap (λ (x : List ℕ × ℕ × ℕ). length x.0) r.2);
        series = r.0;
        first = witness_first limit m w d set r.0 r.1;
        is_sent = ap (λ (x : List ℕ × ℕ × ℕ). x.0) r.2;
        is_before = ap (λ (x : List ℕ × ℕ × ℕ). x.1) r.2;
        is_replacement = ap (λ (x : List ℕ × ℕ × ℕ). x.2) r.2;
      }

holds_by : (f : Fact) → Computed f → Holds f
holds_by (monitorable b r) (e, h) = (e, (monitorability_exact (accepted_table state_limit b e).well_formed r).1 h)
holds_by (classed b q c) (e, l, h) = (e, (class_exact (accepted_table state_limit b e).well_formed q l c).1 h)
holds_by (immune b set) (e, h) =
    let w = (accepted_table state_limit b e).well_formed in
    (e, (immune_by (monitor_of b) w 3 set h.0, immune_by (monitor_of b) w 6 set h.1))
holds_by (distant b d set l) (e, within, h) = (e, distant_by (monitor_of b) (accepted_table state_limit b e).well_formed d set l within h)
holds_by (witnessed b set sent before replacement) (e, within, h) =
    let w = (accepted_table state_limit b e).well_formed in
    (e, (witnessed_by (monitor_of b) w 3 set sent before replacement within h.0, witnessed_by (monitor_of b) w 6 set sent before replacement within h.1))

hold_by : {fs : List Fact} → AllComputed fs → Hold fs
hold_by end = tt
hold_by (◌also◌ {f} {fs} c cs) = (holds_by f c, hold_by cs)

pub starred_hold : Hold starred
unfolding flat_map judge_answer first any values find each within leads inevitable_within run settled_mark class monitorability reading told steps words series
starred_hold =
    hold_by {fs = starred}
    ((refl, refl) also (refl, refl) also (refl, refl) also (refl, refl)
    also (refl, (refl, refl)) also (refl, (refl, refl)) also (refl, (refl, refl)) also (refl, (refl, refl))
    also (refl, lit≤ tt, (refl, refl)) also (refl, lit≤ tt, (refl, refl))
    also (refl, lit≤ tt, (refl, refl)) also (refl, lit≤ tt, (refl, refl))
    also (refl, lit≤ tt, refl) also (refl, lit≤ tt, refl)
    also (refl, lit< tt, refl) also (refl, (refl, refl)) also end)
