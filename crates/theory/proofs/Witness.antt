-- The first harmful series up to the horizon is the first of all, and where there is none up to the horizon there is none at all.
-- Shown for any test of the two states reached, any state q to begin with, and any list of fault steps that rises.
use mathlib.Core.Path.{◌≡◌, refl, sym, ap, ◌∙◌, subst}
use mathlib.Core.Bool.{Bool, true, ◌&&◌}
use mathlib.Core.List.{List, ◌++◌}
use mathlib.Core.Logic.{◌⊎◌, inl, inr, ⊎_elim}
use mathlib.Core.Option.{Option, none, some}
use Prim.Native.Nat.{ℕ, suc, ◌+◌, ◌*◌, ◌≤◌, ◌<◌, suc-le-suc}
use native.Mathlib.Nat.{le_refl}
use native.Mathlib.Omega.{arith}
use lib.Dec.{eqb}
use lib.ListN.{length, length-append}
use borrow.Author.Tests.{eqb-true}
use Rattle.theory.specs.Below.{any}
use Rattle.theory.specs.Lists.{In, find, each, Rising}
use Rattle.theory.specs.Automaton.{Automaton, Closed, Trace, run, reached_from}
use Rattle.theory.specs.Pairs.{Tells, told}
use Rattle.theory.specs.Faults.{FaultStep}
use Rattle.theory.specs.Series.{Series, Valid, sent_trace, received_trace, harmful, StepFirst, Precedes, series}
use Rattle.theory.specs.Extent.{ShortestLength}
use Rattle.theory.specs.Distance.{HarmedFrom}
use Rattle.theory.specs.Computed.{horizon, first_harmful, extent_of}
use Rattle.theory.proofs.Below.{clash, not_clash, and_both, lt_or_le, any_at}
use Rattle.theory.proofs.Lists.{InEach, each_in, in_each, find_in, find_none, find_each, find_each_more, find_same, none_passes, find_first}
use Rattle.theory.proofs.Reach.{run_in, run_append, trace_append, leads_short, reached_complete}
use Rattle.theory.proofs.Pairs.{told_sound, told_complete, told_settled}
use Rattle.theory.proofs.Faults.{Good}
use Rattle.theory.proofs.Series.{Long, series_in, in_series, series_rise}

-- the run of a trace in three parts
pub run_parts : (g : Automaton) (q : ℕ) (x u y : List ℕ) → run g q (x ++ (u ++ y)) ≡ run g (run g (run g q x) u) y
run_parts g q x u y = run_append g q x (u ++ y) ∙ run_append g (run g q x) u y

pub parts_length : (u v w : List ℕ) → length (u ++ (v ++ w)) ≡ length u + (length v + length w)
parts_length u v w = length-append u (v ++ w) ∙ ap (λ (l : ℕ). length u + l) (length-append v w)

pub sent_length : (s : Series) → length (sent_trace s) ≡ length s.before + (length s.fault.sent + length s.after)
sent_length s = parts_length s.before s.fault.sent s.after

-- a fault step strikes: it takes some state reached from q to two states that some trace tells apart
abbrev pub strikes_at : Automaton → (ℕ → ℕ → Bool) → ℕ → FaultStep → ℕ → Bool
strikes_at g ends q f p = reached_from g q p && told g ends (g.states * g.states) (run g p f.sent) (run g p f.received)

abbrev pub strikes : Automaton → (ℕ → ℕ → Bool) → ℕ → FaultStep → Bool
strikes g ends q f = any g.states (strikes_at g ends q f)

module _ (g : Automaton) (ends : ℕ → ℕ → Bool) (faults : List FaultStep) where
  -- a valid series that is harmful from q
  pub record Harm (q : ℕ) (s : Series) : Type 0 where
    pub valid : Valid g faults s
    pub harms : harmful g ends q s ≡ true

  -- the pair of states after the fault
  abbrev pub sent_state : ℕ → Series → ℕ
  sent_state q s = run g (run g q s.before) s.fault.sent

  abbrev pub received_state : ℕ → Series → ℕ
  received_state q s = run g (run g q s.before) s.fault.received

  -- a series is harmful exactly if what comes after the fault tells these two apart
  pub harm_tells : (q : ℕ) (s : Series) → Harm q s → Tells g ends (sent_state q s) (received_state q s) s.after
  harm_tells q s h = record {
    trace = h.valid.after_trace;
    apart = subst (λ (z : ℕ). ends (run g (sent_state q s) s.after) z ≡ true) (run_parts g q s.before s.fault.received s.after)
        (subst (λ (z : ℕ). ends z (run g q (received_trace s)) ≡ true) (run_parts g q s.before s.fault.sent s.after) h.harms);
  }

  pub tells_harm : (q : ℕ) (s : Series) → Trace g s.before → In s.fault faults → Tells g ends (sent_state q s) (received_state q s) s.after → Harm q s
  tells_harm q s b i t = record {
    valid = record { before_trace = b; known = i; after_trace = t.trace };
    harms = subst (λ (z : ℕ). ends (run g q (sent_trace s)) z ≡ true) (sym (run_parts g q s.before s.fault.received s.after))
        (subst (λ (z : ℕ). ends z (run g (received_state q s) s.after) ≡ true) (sym (run_parts g q s.before s.fault.sent s.after)) t.apart);
  }

  -- ---- harmed traces are the sent traces of harmful series

  pub harmed_harm : {q : ℕ} {w : List ℕ} → (h : HarmedFrom g faults ends q w) → Harm q h.fault.by
  harmed_harm {q} {w} h = record {
    valid = h.fault.valid;
    harms = subst (λ (z : List ℕ). ends (run g q (sent_trace h.fault.by)) (run g q z) ≡ true) h.fault.is_received
        (subst (λ (z : List ℕ). ends (run g q z) (run g q h.received) ≡ true) h.fault.is_sent h.differs);
  }

  pub harm_harmed : {q : ℕ} {s : Series} → Harm q s → HarmedFrom g faults ends q (sent_trace s)
  harm_harmed {q} {s} h = record {
    received = received_trace s;
    fault = record { by = s; valid = h.valid; is_sent = refl; is_received = refl };
    differs = h.harms;
  }

  module _ (c : Closed g) (good : (s : FaultStep) → In s faults → Good g s) (q : ℕ) (q_in : q < g.states) where
    -- ---- the horizon

    -- a trace of at most n symbols to the same state
    short_way : (x : List ℕ) → Trace g x → (w : List ℕ) × Trace g w × (run g q w ≡ run g q x) × (length w ≤ g.states)
    short_way x t =
        let h = leads_short g (eqb (run g q x)) q (reached_complete c q_in (record { word = x; trace = t; arrives = refl })) in
        (h.hits.word, h.hits.trace, sym (eqb-true (run g q x) (run g q h.hits.word) h.hits.passes), h.short)

    -- after the fault of a harmful series, n * n symbols are enough to tell apart
    harm_told : (s : Series) → Harm q s → told g ends (g.states * g.states) (sent_state q s) (received_state q s) ≡ true
    harm_told s h =
        let f = good s.fault h.valid.known in
        let p_in = run_in c q s.before q_in h.valid.before_trace in
        told_settled g ends c (length s.after) (sent_state q s) (received_state q s)
        (run_in c (run g q s.before) s.fault.sent p_in f.sent_trace_lem)
        (run_in c (run g q s.before) s.fault.received p_in f.received_trace_lem)
        (told_complete g ends (length s.after) (sent_state q s) (received_state q s) s.after (le_refl (length s.after)) (harm_tells q s h))

    -- every harmful series has one that is not longer than the horizon
    pub near : (s : Series) → Harm q s → (t : Series) × Harm q t × (length (sent_trace t) ≤ horizon g.states)
    near s h =
        let way = short_way s.before h.valid.before_trace in
        let f = good s.fault h.valid.known in
        let w = told_sound g ends (g.states * g.states) (sent_state q s) (received_state q s) (harm_told s h) in
        let t : Series = record { before = way.0; fault = s.fault; after = w.word } in (
          t,
          tells_harm q t way.1 h.valid.known
              (subst (λ (p : ℕ). Tells g ends (run g p s.fault.sent) (run g p s.fault.received) w.word) (sym way.2) w.tells),
          omega (arith, sent_length t, way.3, f.short, w.short),
        )

    -- ---- the first

    abbrev pub up_to_horizon : List Series
    up_to_horizon = each (suc (horizon g.states)) (series faults g.symbols)

    -- a harmful series within the horizon stands in the list
    listed : (s : Series) → Harm q s → length (sent_trace s) ≤ horizon g.states → In s up_to_horizon
    listed s h l =
        each_in s (suc (horizon g.states)) (series faults g.symbols) (length (sent_trace s)) (suc-le-suc l)
        (in_series g faults (length (sent_trace s)) s.before s.fault s.after (record { valid = h.valid; long = refl }))

    pub none_harms : first_harmful g ends faults q ≡ none → (s : Series) → Harm q s → ⊥
    unfolding first_harmful
    none_harms e s h =
        let t = near s h in
        clash t.1.harms (none_passes (harmful g ends q) up_to_horizon e t.0 (listed t.0 t.1 t.2))

    -- s is harmful, and first in the written order among all that are
    pub record First (s : Series) : Type 0 where
      pub harm : Harm q s
      pub within : length (sent_trace s) ≤ horizon g.states
      pub precedes : (t : Series) → Harm q t → (t ≡ s) ⊎ Precedes s t

    module _ (rise : Rising StepFirst faults) where
      pub first_harms : (s : Series) → first_harmful g ends faults q ≡ some s → First s
      unfolding first_harmful
      first_harms s e = record { harm = record { valid = l.valid; harms = f.1 }; within = short; precedes = before }
        where
          f : In s up_to_horizon × (harmful g ends q s ≡ true)
          f = find_in (harmful g ends q) up_to_horizon e

          i : InEach (suc (horizon g.states)) (series faults g.symbols) s
          i = in_each s (suc (horizon g.states)) (series faults g.symbols) f.0

          l : Long g faults i.index s
          l = series_in g faults i.index s i.here

          short : length (sent_trace s) ≤ horizon g.states
          short = omega (arith, l.long, i.below)

          before : (t : Series) → Harm q t → (t ≡ s) ⊎ Precedes s t
          before t h =
              ⊎_elim
              (λ (far : horizon g.states < length (sent_trace t)). inr (inl (omega (arith, short))))
              (λ close. find_first (harmful g ends q) Precedes up_to_horizon (series_rise g faults rise (suc (horizon g.states))) e t
              (listed t h close) h.harms)
              (lt_or_le (horizon g.states) (length (sent_trace t)))

      pub first_least : {s : Series} → First s → (t : Series) → Harm q t → length (sent_trace s) ≤ length (sent_trace t)
      first_least {s} h t k =
          ⊎_elim (λ (e : t ≡ s). (let z : length (sent_trace t) ≡ length (sent_trace s) = ap (λ (u : Series). length (sent_trace u)) e in omega arith))
          (⊎_elim (λ (l : length (sent_trace s) < length (sent_trace t)). omega arith) (λ r. (let z = r.0 in omega arith)))
          (h.precedes t k)

      -- the length of the first is the length of the shortest harmed trace, and there is no first exactly where there is none
      pub extent_exact : ShortestLength (HarmedFrom g faults ends q) (extent_of (first_harmful g ends faults q))
      extent_exact = go (first_harmful g ends faults q) refl
        where
          go : (o : Option Series) → first_harmful g ends faults q ≡ o → ShortestLength (HarmedFrom g faults ends q) (extent_of o)
          go none e = λ w h. none_harms e h.fault.by (harmed_harm h)
          go (some s) e =
              let f = first_harms s e in
              record {
                word = sent_trace s;
                has = harm_harmed f.harm;
                long = refl;
                least = λ w h. subst (λ (z : List ℕ). length (sent_trace s) ≤ length z) (sym h.fault.is_sent) (first_least f h.fault.by (harmed_harm h));
              }

    -- ---- how a search finds the first

    -- if no harmful series is shorter than l, the first harmful one of length l is the first of all
    pub found_first : (l : ℕ) (s : Series) → l ≤ horizon g.states → ((t : Series) → Harm q t → l ≤ length (sent_trace t))
        → find (harmful g ends q) (series faults g.symbols l) ≡ some s → first_harmful g ends faults q ≡ some s
    unfolding first_harmful
    found_first l s within least e =
        find_each (harmful g ends q) (suc (horizon g.states)) (series faults g.symbols) l (suc-le-suc within)
        (λ j lt. find_none (harmful g ends q) (series faults g.symbols j)
        (λ t i. not_clash (λ h. (let r = series_in g faults j t i in let x = least t (record { valid = r.valid; harms = h }) in let y = r.long in
        omega (arith, lt, x, y))))) e

    pub found_none : ((t : Series) → Harm q t → ⊥) → first_harmful g ends faults q ≡ none
    unfolding first_harmful
    found_none no-harm =
        find_none (harmful g ends q) up_to_horizon
        (λ t i. not_clash (λ h. (let r = in_each t (suc (horizon g.states)) (series faults g.symbols) i in
        no-harm t (record { valid = (series_in g faults r.index t r.here).valid; harms = h }))))

    -- ---- how little has to be computed

    -- what is first among the series of at most l symbols is the first
    pub found_early : (l : ℕ) (s : Series) → l ≤ horizon g.states → find (harmful g ends q) (each (suc l) (series faults g.symbols)) ≡ some s
        → first_harmful g ends faults q ≡ some s
    unfolding first_harmful
    found_early l s within e = find_each_more (harmful g ends q) (suc l) (suc (horizon g.states)) (series faults g.symbols) (suc-le-suc within) e

    -- where no fault step strikes, there is no first
    pub found_never : find (strikes g ends q) faults ≡ none → first_harmful g ends faults q ≡ none
    found_never e =
        found_none
        (λ t h.
        let p = run g q t.before in
        let w = h.valid.before_trace in
        let r : reached_from g q p ≡ true = reached_complete c q_in (record { word = t.before; trace = w; arrives = refl }) in
        clash
        (any_at g.states (strikes_at g ends q t.fault) p (run_in c q t.before q_in w)
        (and_both (reached_from g q p) (told g ends (g.states * g.states) (sent_state q t) (received_state q t)) r (harm_told t h)))
        (none_passes (strikes g ends q) faults e t.fault h.valid.known))

-- the two traces of a valid series are traces
module _ (g : Automaton) (faults : List FaultStep) (good : (s : FaultStep) → In s faults → Good g s) (s : Series) (v : Valid g faults s) where
  around : (x : List ℕ) → Trace g x → Trace g (s.before ++ (x ++ s.after))
  around x t = trace_append g s.before (x ++ s.after) v.before_trace (trace_append g x s.after t v.after_trace)

  pub sent_trace_lem : Trace g (sent_trace s)
  sent_trace_lem = around s.fault.sent (good s.fault v.known).sent_trace_lem

  pub received_trace_lem : Trace g (received_trace s)
  received_trace_lem = around s.fault.received (good s.fault v.known).received_trace_lem

-- only the test on states matters
pub harmful_same : (g : Automaton) (ends h : ℕ → ℕ → Bool) (faults : List FaultStep) → Closed g → ((s : FaultStep) → In s faults → Good g s)
    → ((p r : ℕ) → p < g.states → r < g.states → ends p r ≡ h p r) → (q : ℕ) → q < g.states → first_harmful g ends faults q ≡ first_harmful g h faults q
unfolding first_harmful
harmful_same g ends h faults c good same q q_in =
    find_same (harmful g ends q) (harmful g h q) (each (suc (horizon g.states)) (series faults g.symbols))
    (λ s i.
    let r = in_each s (suc (horizon g.states)) (series faults g.symbols) i in
    let v = (series_in g faults r.index s r.here).valid in
    same (run g q (sent_trace s)) (run g q (received_trace s)) (run_in c q (sent_trace s) q_in (sent_trace_lem g faults good s v))
    (run_in c q (received_trace s) q_in (received_trace_lem g faults good s v)))
