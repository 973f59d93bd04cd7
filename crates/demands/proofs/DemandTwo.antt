-- Demand 2, proved of every accepted table, every fault set, both readings and every area.
use mathlib.Core.Path.{◌≡◌, refl, sym, ap, ◌∙◌, subst}
use mathlib.Core.Bool.{true, ◌||◌}
use mathlib.Core.List.{List, [], ◌++◌, append-nil}
use mathlib.Core.Logic.{◌↔◌, ◌⊎◌, ⊎_elim}
use mathlib.Core.Option.{Option, none, some}
use Prim.Native.Nat.{ℕ, ◌^◌, ◌≤◌, ◌<◌, zero-le}
use native.Mathlib.Omega.{arith}
use lib.Dec.{eqb}
use lib.ListN.{length, get_or}
use borrow.Author.Tests.{le-leb, lt-leb}
use Rattle.theory.specs.Answer.{Answer, answered, asks}
use Rattle.theory.specs.Monitor.{Monitor, WellFormed, Class, class, reading}
use Rattle.theory.specs.Faults.{kinds, all_faults}
use Rattle.theory.specs.Series.{Series, sent_trace, received_trace}
use Rattle.theory.specs.Extent.{number}
use Rattle.theory.specs.Distance.{Harmed, Distance, FirstWitness}
use Rattle.theory.specs.Computed.{extent_of, first_witness}
use Rattle.theory.proofs.Answer.{asks_values}
use Rattle.theory.proofs.Values.{get_or_filled}
use Rattle.theory.proofs.Exact.{class_exact, monitorability_exact, reached_in, reached_exact}
use Rattle.theory.proofs.Distance.{alike_or_differ, distance_exact, witness_first, first_only}
use Rattle.monitor.specs.Format.{states_of, monitor_of}
use Rattle.monitor.specs.Questions.{judge_answer, table_questions}
use Rattle.monitor.proofs.Accepted.{accepted_table, accepted_asks}
use Rattle.classes.specs.Classify.{class_list, classify_questions, classify_figures, classify_answer}
use Rattle.witness.specs.Figures.{FaultFigures, series_figures, witness_figures, witness_trace, room_questions}
use Rattle.immunity.specs.Findings.{fault_questions, table_figures, fault_answer, fault_trace, summary_figures, column_figures, card_answer}
use Rattle.demands.specs.DemandTwo.{Published, Askable, Unharmed, Found, immune, vulnerable, Told, Carded, DemandTwo}
use Rattle.demands.proofs.DemandOne.{each_one, summary_asks, column_asks}

byte_class : (m : Monitor) (q : ℕ) → q < m.automaton.states → get_or (class_list m) q 0 ≡ class m q
byte_class m q l = ap (λ (v : List ℕ). get_or v q 0) (sym (append-nil (class_list m))) ∙ get_or_filled (class m) [] m.automaton.states q l

-- a finding without values says that no trace is harmed
no_values_lem : {m : Monitor} {d set : ℕ} {given : FaultFigures} {bytes : List ℕ} → Found m d set given bytes → given ≡ none → Unharmed m d set
no_values_lem (immune safe) e = safe
no_values_lem (vulnerable s first shortest) e = absurd (let z : ◌≡◌ {A = ℕ} 0 1 = cc in omega arith)

pub known : (d : ℕ) → (d ≡ 3) ⊎ (d ≡ 6) → (eqb d 3 || eqb d 6) ≡ true
known d = ⊎_elim (λ (e : d ≡ 3). rw e) (λ (e : d ≡ 6). rw e)

-- what is not none
pub there : {A : Type 0} (o : Option A) → (o ≡ none → ⊥) → (x : A) × (o ≡ some x)
there none n = absurd (n refl)
there (some x) n = (x, refl)

-- where a computed series is first, and there is only one first, that one is computed
pub computed_first : {First : Series → Type 0} (o : Option Series) → (o ≡ none → ⊥) → ((s : Series) → o ≡ some s → First s)
    → ((s t : Series) → First s → First t → s ≡ t) → (s : Series) → First s → o ≡ some s
computed_first o n is only s f = (let t = there o n in t.1 ∙ ap some (only t.0 s (is t.0 t.1) f))

-- a question about faults of which 13 alone is left, and is asked of the sent trace of s
pub asks_told : (m : Monitor) (d : ℕ) (s : Series) {answer : ℕ → Answer FaultFigures} {bytes : List ℕ}
    → ((room : ℕ) → answer room ≡ asks (room_questions (some s) room) (some (series_figures (reading m d) m s)))
    → bytes ≡ sent_trace s → Told m d answer bytes s
asks_told m d s {answer} {bytes} left same = record {
  figures = figures;
  trace = λ area l. rw (figures (length area) l, same);
  short = λ room l. left room ∙ rw (lt-leb (length (sent_trace s)) room l);
}
  where
    figures : (room : ℕ) → length (sent_trace s) ≤ room → answer room ≡ answered (some (series_figures (reading m d) m s))
    figures room l = left room ∙ rw (le-leb (length (sent_trace s)) room l)

module _ (limit : ℕ) (b : List ℕ) (e : judge_answer limit b ≡ answered []) where
  abbrev m : Monitor
  m = monitor_of b

  w : WellFormed limit m
  w = (accepted_table limit b e).well_formed

  pub published : (room : ℕ) → Published limit b room
  unfolding classify_answer
  published room = record {
    classes = λ q l c. subst (λ (x : ℕ). Class m q c ↔ (c ≡ x)) (sym (byte_class m q l)) (class_exact w q l c);
    table = monitorability_exact w;
    inside = reached_in w;
    reaches = reached_exact w;
    answer = λ l. accepted_asks limit b (classify_questions room (monitor_of b)) (classify_figures m) e ∙ rw (le-leb (states_of b) room l);
  }

  module _ (set d : ℕ) where
    far : (o : Option Series) → first_witness m d set ≡ o → Distance m d set (extent_of o)
    far o h = subst (λ (x : Option Series). Distance m d set (extent_of x)) h (distance_exact limit m w d set)

    by_outcome : (o : Option Series) → first_witness m d set ≡ o → Found m d set (witness_figures (reading m d) m o) (witness_trace o)
    by_outcome none h = immune (far none h)
    by_outcome (some s) h = vulnerable s (witness_first limit m w d set s h) (far (some s) h)

    pub tells : (room : ℕ) (given : FaultFigures) → fault_answer limit b set d room ≡ answered given → Found m d set given (fault_trace b set d)
    unfolding fault_answer
    tells room given a =
        let same = asks_values (table_questions limit b ++ fault_questions set d (first_witness m d set) room) (table_figures m d set) a in
        subst (λ (v : FaultFigures). Found m d set v (fault_trace b set d)) same (by_outcome (first_witness m d set) refl)

    -- a witness harms its sent trace
    harms : (s : Series) → FirstWitness m d set s → Harmed m d set (sent_trace s)
    harms s f =
        let h = f.witness in
        record {
          received = received_trace s;
          fault = record { by = s; valid = h.valid; is_sent = refl; is_received = refl };
          differs = ⊎_elim (λ alike. absurd (h.differs alike)) (λ r. r) (alike_or_differ m d (sent_trace s) (received_trace s));
        }

    -- the first witness is the one that is computed
    computed : (s : Series) → FirstWitness m d set s → first_witness m d set ≡ some s
    computed s f = computed_first (first_witness m d set) (λ h. far none h (sent_trace s) (harms s f)) (witness_first limit m w d set) (first_only m d set) s f

    pub harmed : ¬ (Unharmed m d set) → (s : Series) × FirstWitness m d set s × Distance m d set (number (length (sent_trace s)))
    harmed n =
        let t = there (first_witness m d set) (λ h. n (far none h)) in
        let h = t.1 in
        (t.0, witness_first limit m w d set t.0 h, far (some t.0) h)

    module _ (a : Askable set d) where
      -- what is left to be asked is 13
      left : (room : ℕ) → fault_answer limit b set d room ≡ asks (room_questions (first_witness m d set) room) (table_figures m d set)
      unfolding fault_answer
      left room =
          accepted_asks limit b (fault_questions set d (first_witness m d set) room) (table_figures m d set) e
          ∙ rw (le-leb set all_faults a.set_most, known d a.reading_known)

      pub given : (s : Series) → FirstWitness m d set s → Told m d (fault_answer limit b set d) (fault_trace b set d) s
      given s f = (let h = computed s f in asks_told m d s (λ room. left room ∙ rw h) (ap witness_trace h))

      says_immune : (room : ℕ) → Unharmed m d set → fault_answer limit b set d room ≡ answered none
      says_immune room safe = go (first_witness m d set) refl
        where
          go : (o : Option Series) → first_witness m d set ≡ o → fault_answer limit b set d room ≡ answered none
          go none h = left room ∙ rw (h, le-leb 0 room zero-le)
          go (some s) h = (let f = far (some s) h in absurd (safe f.word f.has))

  pub carded : Carded limit b
  unfolding card_answer
  carded = record {
    summary = summary_asks limit b ∙ accepted_asks limit b [] (summary_figures m) e;
    number = each_one (λ c. asks (table_questions limit b) (column_figures c m)) kinds;
    column = λ c l. (
      column_figures c m,
      column_asks limit b c l ∙ accepted_asks limit b [] (column_figures c m) e,
      by_outcome (2 ^ c) 3 (first_witness m 3 (2 ^ c)) refl,
    );
  }

pub demand_two : (limit : ℕ) (b : List ℕ) → judge_answer limit b ≡ answered [] → (set d room : ℕ) → DemandTwo limit b set d room
demand_two limit b e set d room = record {
  published = published limit b e room;
  immune_exactly = λ a. (λ h. no_values_lem (tells limit b e set d room none h) refl, says_immune limit b e set d a room);
  harmed = harmed limit b e set d;
  witness = given limit b e set d;
  card = carded limit b e;
}
