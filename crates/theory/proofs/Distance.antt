-- Chains of faults: one fault decides immunity; two sets together; any number of faults without repetition; six classes against three marks.
use mathlib.Core.Path.{◌≡◌, refl, sym, ap, ◌∙◌, subst}
use mathlib.Core.Bool.{Bool, true, false, not}
use mathlib.Core.List.{List, [], ◌∷◌}
use mathlib.Core.Logic.{◌↔◌, ◌⊎◌, inl, inr, ⊎_elim}
use mathlib.Core.Option.{some}
use Prim.Native.Nat.{ℕ, zero, suc, ◌≤◌, ◌<◌}
use native.Mathlib.Nat.{le_refl}
use native.Mathlib.Omega.{arith}
use lib.Dec.{eqb}
use lib.ListN.{length, get_or}
use borrow.Author.Tests.{eqb-true, eqb-false, ne_eqb, not-true}
use Rattle.theory.specs.Lists.{In}
use Rattle.theory.specs.Automaton.{Automaton, Trace, run, leads}
use Rattle.theory.specs.Monitor.{Monitor, WellFormed, class_from, class, reading, marked}
use Rattle.theory.specs.Faults.{FaultStep, holds, repetition, together}
use Rattle.theory.specs.Series.{Series, sent_trace, received_trace, Precedes, Valid}
use Rattle.theory.specs.Extent.{number, missing, Shortest, smaller, AtMost}
use Rattle.theory.specs.Distance.{Faulted, Joined, itself, forth, back, Chained, end, then, differ, reads, faults_of, Harmed, HarmedBySeveral, Distance}
use Rattle.theory.specs.Distance.{DistanceOfSeveral, Witness, FirstWitness}
use Rattle.theory.specs.Computed.{first_witness, distance}
use Rattle.theory.proofs.Reach.{run_in}
use Rattle.theory.proofs.Faults.{Good, steps_good, steps_shrink, steps_rise, of_either, first_of_two, second_of_two}
use Rattle.theory.proofs.Witness.{parts_length, sent_length, sent_trace_lem, received_trace_lem, First, first_harms, extent_exact}
use Rattle.theory.proofs.Order.{precedes_not_itself, precedes_then}
use Rattle.theory.proofs.Extent.{shortest_one, shortest_wider, shortest_same, shortest_either}

-- ---- joined traces, of any fault steps

module _ (g : Automaton) (faults : List FaultStep) (good : (s : FaultStep) → In s faults → Good g s) where
  pub sent_is_trace : {x y : List ℕ} → Faulted g faults x y → Trace g x
  sent_is_trace f = subst (Trace g) (sym f.is_sent) (sent_trace_lem g faults good f.by f.valid)

  pub received_is_trace : {x y : List ℕ} → Faulted g faults x y → Trace g y
  received_is_trace f = subst (Trace g) (sym f.is_received) (received_trace_lem g faults good f.by f.valid)

  -- joined is reflexive (on traces), symmetric and transitive
  pub joined_then : {x y z : List ℕ} → Joined g faults x y → Joined g faults y z → Joined g faults x z
  joined_then (itself t) k = k
  joined_then (forth f j) k = forth f (joined_then j k)
  joined_then (back f j) k = back f (joined_then j k)

  pub joined_turned : {x y : List ℕ} → Joined g faults x y → Joined g faults y x
  joined_turned (itself t) = itself t
  joined_turned (forth f j) = joined_then (joined_turned j) (back f (itself (sent_is_trace f)))
  joined_turned (back f j) = joined_then (joined_turned j) (forth f (itself (received_is_trace f)))

-- ---- tables

module _ (m : Monitor) (d : ℕ) where
  abbrev g : Automaton
  g = m.automaton

  -- the test says that two traces read differently
  pub differ_not : (x y : List ℕ) → differ m d (run g m.start x) (run g m.start y) ≡ true → reads m d x ≡ reads m d y → ⊥
  differ_not x y e h = eqb-false (reads m d x) (reads m d y) (not-true (eqb (reads m d x) (reads m d y)) e) h

  pub alike_or_differ : (x y : List ℕ) → (reads m d x ≡ reads m d y) ⊎ (differ m d (run g m.start x) (run g m.start y) ≡ true)
  alike_or_differ x y = go (eqb (reads m d x) (reads m d y)) refl
    where
      go : (b : Bool) → eqb (reads m d x) (reads m d y) ≡ b → (reads m d x ≡ reads m d y) ⊎ (not b ≡ true)
      go true e = inl (eqb-true (reads m d x) (reads m d y) e)
      go false e = inr refl

  module _ (set : ℕ) where
    abbrev F : List FaultStep
    F = faults_of m set

    -- no trace is harmed
    abbrev pub Immune : Type 0
    Immune = (w : List ℕ) → Harmed m d set w → ⊥

    faulted_alike : Immune → (x y : List ℕ) → Faulted g F x y → reads m d x ≡ reads m d y
    faulted_alike im x y f = ⊎_elim (λ e. e) (λ h. absurd (im x (record { received = y; fault = f; differs = h }))) (alike_or_differ x y)

    pub joined_alike : Immune → {x y : List ℕ} → Joined g F x y → reads m d x ≡ reads m d y
    joined_alike im (itself t) = refl
    joined_alike im (forth {x} {y} {z} f j) = faulted_alike im x y f ∙ joined_alike im j
    joined_alike im (back {x} {y} {z} f j) = sym (faulted_alike im y x f) ∙ joined_alike im j

    -- where all joined traces read alike no trace is harmed, since a fault joins sent and received
    pub alike_immune : ((x y : List ℕ) → Joined g F x y → reads m d x ≡ reads m d y) → Immune
    alike_immune alike w h =
        differ_not w h.received h.differs (alike w h.received (forth h.fault (itself (received_is_trace g F (steps_good g set) h.fault))))

    -- ---- any number of faults

    shrinks : holds set repetition ≡ false → {x y : List ℕ} → Faulted g F x y → length y ≤ length x
    shrinks without {x} {y} f =
        let s = f.by in
        let r = steps_shrink set g.symbols without s.fault f.valid.known in
        let a = ap length f.is_sent ∙ parts_length s.before s.fault.sent s.after in
        let b = ap length f.is_received ∙ parts_length s.before s.fault.received s.after in
        omega (arith, r, a, b)

    -- some single fault of a chain changes the reading if the whole chain does; the trace it strikes is no longer than the first one
    link : holds set repetition ≡ false → {x y : List ℕ} → Chained g F x y → differ m d (run g m.start x) (run g m.start y) ≡ true
        → (v : List ℕ) × Harmed m d set v × (length v ≤ length x)
    link without (end {x} t) e = absurd (differ_not x x e refl)
    link without (then {x} {y} {z} f c) e =
        ⊎_elim
        (λ (alike : reads m d x ≡ reads m d y).
        let r = link without c (subst (λ (t : ℕ). not (eqb t (reads m d z)) ≡ true) alike e) in
        (r.0, r.1, (let s = shrinks without f in omega (arith, s, r.2))))
        (λ h. (x, record { received = y; fault = f; differs = h }, le_refl (length x)))
        (alike_or_differ x y)

    pub one_of_several : (w : List ℕ) → Harmed m d set w → HarmedBySeveral m d set w
    one_of_several w h =
        record { last = h.received; chain = then h.fault (end (received_is_trace g F (steps_good g set) h.fault)); differs = h.differs }

    pub several_one : holds set repetition ≡ false → (w : List ℕ) → HarmedBySeveral m d set w → (v : List ℕ) × Harmed m d set v × (length v ≤ length w)
    several_one without w h = link without h.chain h.differs

  -- ---- two sets

  -- a trace harmed by a fault step of one set is harmed by every set that has the step
  step_of_both : (A B : ℕ) (w : List ℕ) (h : Harmed m d A w) → In h.fault.by.fault (faults_of m B) → Harmed m d B w
  step_of_both A B w h i =
      let f = h.fault in
      let valid : Valid g (faults_of m B) f.by = record { before_trace = f.valid.before_trace; known = i; after_trace = f.valid.after_trace } in
      record { received = h.received; fault = record { by = f.by; valid = valid; is_sent = f.is_sent; is_received = f.is_received }; differs = h.differs }

  pub harmed_either : (A B : ℕ) (w : List ℕ) → Harmed m d (together A B) w → Harmed m d A w ⊎ Harmed m d B w
  harmed_either A B w h =
      ⊎_elim (λ i. inl (step_of_both (together A B) A w h i)) (λ i. inr (step_of_both (together A B) B w h i))
      (of_either A B g.symbols h.fault.by.fault h.fault.valid.known)

  pub harmed_first : (A B : ℕ) (w : List ℕ) → Harmed m d A w → Harmed m d (together A B) w
  harmed_first A B w h = step_of_both A (together A B) w h (first_of_two A B g.symbols h.fault.by.fault h.fault.valid.known)

  pub harmed_second : (A B : ℕ) (w : List ℕ) → Harmed m d B w → Harmed m d (together A B) w
  harmed_second A B w h = step_of_both B (together A B) w h (second_of_two A B g.symbols h.fault.by.fault h.fault.valid.known)

-- ---- six against three

-- the mark that a class stands for
mark_of : ℕ → ℕ
mark_of c = get_or (1 ∷ 2 ∷ 0 ∷ 0 ∷ 0 ∷ 0 ∷ []) c 0

class_mark : (v : ℕ) (t f : Bool) → v ≤ 2 → mark_of (class_from v t f) ≡ v
unfolding mark_of
class_mark zero true true l = refl
class_mark zero true false l = refl
class_mark zero false true l = refl
class_mark zero false false l = refl
class_mark (suc zero) t f l = refl
class_mark (suc (suc zero)) t f l = refl
class_mark (suc (suc (suc v))) t f l = absurd (omega arith)

module _ (limit : ℕ) (m : Monitor) (w : WellFormed limit m) where
  -- states of one class have one mark
  same_class : (p q : ℕ) → p < m.automaton.states → q < m.automaton.states → class m p ≡ class m q → m.verdict p ≡ m.verdict q
  unfolding class
  same_class p q lp lq e = sym (mark p lp) ∙ ap mark_of e ∙ mark q lq
    where
      mark : (p : ℕ) → p < m.automaton.states → mark_of (class m p) ≡ m.verdict p
      mark p l = class_mark (m.verdict p) (leads m.automaton (marked m 1) p) (leads m.automaton (marked m 2) p) (w.verdict_in p l)

  state_in : (x : List ℕ) → Trace m.automaton x → run m.automaton m.start x < m.automaton.states
  state_in x t = run_in w.closed m.start x w.start_in t

  -- what harms by marks harms by classes
  pub harmed_by_class : (set : ℕ) (x : List ℕ) → Harmed m 3 set x → Harmed m 6 set x
  unfolding reading
  harmed_by_class set x h = record {
    received = h.received;
    fault = h.fault;
    differs =
        ap not (ne_eqb (class m p) (class m q)
        (λ e. eqb-false (m.verdict p) (m.verdict q) (not-true (eqb (m.verdict p) (m.verdict q)) h.differs) (same_class p q p_in q_in e)));
  }
    where
      p : ℕ
      p = run m.automaton m.start x

      q : ℕ
      q = run m.automaton m.start h.received

      p_in : p < m.automaton.states
      p_in = state_in x (sent_is_trace m.automaton (faults_of m set) (steps_good m.automaton set) h.fault)

      q_in : q < m.automaton.states
      q_in = state_in h.received (received_is_trace m.automaton (faults_of m set) (steps_good m.automaton set) h.fault)

  -- ---- the clauses of demand 3, of a well-formed table

  pub distance_exact : (d set : ℕ) → Distance m d set (distance m d set)
  distance_exact d set =
      extent_exact m.automaton (differ m d) (faults_of m set) w.closed (steps_good m.automaton set) m.start w.start_in
      (steps_rise set m.automaton.symbols)

  pub missing_joined : (d set : ℕ) → (distance m d set ≡ missing) ↔ ((x y : List ℕ) → Joined m.automaton (faults_of m set) x y → reads m d x ≡ reads m d y)
  missing_joined d set = (
    λ e x y. joined_alike m d set (subst (Distance m d set) e (distance_exact d set)),
    λ alike. shortest_one (Harmed m d set) (distance m d set) missing (distance_exact d set) (alike_immune m d set alike),
  )

  pub distance_together : (d A B : ℕ) → distance m d (together A B) ≡ smaller (distance m d A) (distance m d B)
  distance_together d A B =
      shortest_one (Harmed m d (together A B)) (distance m d (together A B)) (smaller (distance m d A) (distance m d B)) (distance_exact d (together A B))
      (shortest_either (Harmed m d A) (Harmed m d B) (Harmed m d (together A B)) (harmed_first m d A B) (harmed_second m d A B) (harmed_either m d A B)
      (distance m d A) (distance m d B) (distance_exact d A) (distance_exact d B))

  pub distance_several : (d set : ℕ) → holds set repetition ≡ false → DistanceOfSeveral m d set (distance m d set)
  distance_several d set without =
      shortest_same (Harmed m d set) (HarmedBySeveral m d set) (one_of_several m d set) (several_one m d set without) (distance m d set) (distance_exact d set)

  pub six_at_most_three : (set : ℕ) → AtMost (distance m 6 set) (distance m 3 set)
  six_at_most_three set =
      shortest_wider (Harmed m 3 set) (Harmed m 6 set) (harmed_by_class set) (distance m 3 set) (distance m 6 set) (distance_exact 3 set) (distance_exact 6 set)

  -- the computed series is the first witness
  pub witness_first : (d set : ℕ) (s : Series) → first_witness m d set ≡ some s → FirstWitness m d set s
  witness_first d set s e =
      record { witness = record { valid = f.harm.valid; differs = differ_not m d (sent_trace s) (received_trace s) f.harm.harms }; first = before }
    where
      f : First m.automaton (differ m d) (faults_of m set) w.closed (steps_good m.automaton set) m.start w.start_in s
      f = first_harms m.automaton (differ m d) (faults_of m set) w.closed (steps_good m.automaton set) m.start w.start_in
          (steps_rise set m.automaton.symbols) s e

      before : (t : Series) → Witness m d set t → (t ≡ s) ⊎ Precedes s t
      before t h = f.precedes t
          (record { valid = h.valid; harms = ⊎_elim (λ alike. absurd (h.differs alike)) (λ r. r) (alike_or_differ m d (sent_trace t) (received_trace t)) })

  -- no distance is 0: every fault step covers a symbol
  pub distance_positive : (d set l : ℕ) → distance m d set ≡ number l → 1 ≤ l
  distance_positive d set l e =
      let s : Shortest (Harmed m d set) l = subst (Distance m d set) e (distance_exact d set) in
      let f = s.has.fault in
      let a = sent_length f.by in
      let b = (steps_good m.automaton set f.by.fault f.valid.known).covers in
      let c = ap length f.is_sent in
      let l' = s.long in
      omega (arith, a, b, c, l')

-- of two series that are each the other or before it, both are one
pub first_alone : (s t : Series) → (t ≡ s) ⊎ Precedes s t → (s ≡ t) ⊎ Precedes t s → s ≡ t
first_alone s t a b =
    ⊎_elim (λ (e : t ≡ s). sym e) (λ p. ⊎_elim (λ (e : s ≡ t). e) (λ q. absurd (precedes_not_itself s (precedes_then s t s p q))) b) a

-- there is only one first witness
pub first_only : (m : Monitor) (d set : ℕ) (s t : Series) → FirstWitness m d set s → FirstWitness m d set t → s ≡ t
first_only m d set s t a b = first_alone s t (a.first t b.witness) (b.first s a.witness)
