-- Settled marks. The number that computes is what the mark counts as. Settled marks are kept by every step, settling them again changes nothing,
-- and of the classes they change positive to good and negative to bad alone.
use mathlib.Core.Path.{◌≡◌, refl, sym, ap, ◌∙◌, subst}
use mathlib.Core.Bool.{Bool, true, false, cond, ◌&&◌}
use mathlib.Core.List.{List, [], ◌∷◌, ◌++◌}
use mathlib.Core.Logic.{◌↔◌, inl, inr, ⊎_elim}
use Prim.Native.Nat.{ℕ, zero, suc, ◌-◌, ◌≤◌, ◌<◌}
use native.Mathlib.Omega.{arith}
use lib.Dec.{eqb}
use lib.ListN.{length}
use borrow.Author.Tests.{eqb-true, eq-eqb, ltb-true}
use Rattle.theory.specs.Below.{any, every, count}
use Rattle.theory.specs.Automaton.{Automaton, Trace, run, inevitable_within, inevitable, leads}
use Rattle.theory.specs.Monitor.{Monitor, WellFormed, Finds, marked, class_from, class, weak, reached, ugly_reached, monitorability, states_reached}
use Rattle.theory.specs.Settled.{Settles, CountsAs, as_drawn, settled_true, settled_false, not_yet, settled_from, settled_mark, Becomes}
use Rattle.theory.proofs.Below.{clash, not_clash, both_ways, or_cases, any_at, any_same, every_at, count_any}
use Rattle.theory.proofs.Reach.{Hits, run_in, lasts, run_append, trace_append, leads_sound, leads_complete}
use Rattle.theory.proofs.Count.{verdict_stays}
use Rattle.theory.proofs.Exact.{found, sought}
use Rattle.theory.proofs.Inevitable.{long_trace, inevitable_here, inevitable_step, inevitable_enough, inevitable_short}
use Rattle.theory.proofs.Inevitable.{inevitable_sound, inevitable_complete}

module _ {limit : ℕ} {m : Monitor} (h : WellFormed limit m) where
  abbrev g : Automaton
  g = m.automaton

  -- the mark v is settled at q: for some number, every series of that length leads to it
  abbrev pub Sure : ℕ → ℕ → Type 0
  Sure v q = inevitable g (marked m v) q ≡ true

  module _ (v : ℕ) (p : 0 < v) where
    -- after so many symbols as are enough
    sure_ends : (r q : ℕ) → q < g.states → inevitable_within g (marked m v) r q ≡ true → (w : List ℕ) → Trace g w → length w ≡ r → m.verdict (run g q w) ≡ v
    sure_ends r q l e w t s = eqb-true (m.verdict (run g q w)) v (inevitable_sound g (marked m v) h.closed (λ q a. verdict_stays h v q a p) r q l e w t s)

    pub sure_settles : (q : ℕ) → q < g.states → Sure v q → Settles g m.verdict v q
    sure_settles q l e = record { number = g.states; ends = sure_ends g.states q l e }

    pub settles_sure : (q : ℕ) → q < g.states → Settles g m.verdict v q → Sure v q
    settles_sure q l s =
        inevitable_enough g (marked m v) h.closed s.number q l
        (inevitable_complete g (marked m v) s.number q (λ w t e. eq-eqb (m.verdict (run g q w)) v (s.ends w t e)))

    pub sure_here : (q : ℕ) → q < g.states → m.verdict q ≡ v → Sure v q
    sure_here q l e = inevitable_here g (marked m v) g.states q (eq-eqb (m.verdict q) v e)

    -- where it is settled at every next state
    pub sure_before : (q : ℕ) → q < g.states → ((a : ℕ) → a < g.symbols → Sure v (g.next q a)) → Sure v q
    sure_before q l e = inevitable_enough g (marked m v) h.closed (suc g.states) q l (inevitable_step g (marked m v) g.states q e)

    sure_next : (q a : ℕ) → q < g.states → a < g.symbols → Sure v q → Sure v (g.next q a)
    unfolding Trace run
    sure_next q a l s e = go (sure_settles q l e).number (sure_settles q l e).ends
      where
        inside : g.next q a < g.states
        inside = h.closed.next_in q a l s

        go : (r : ℕ) → ((w : List ℕ) → Trace g w → length w ≡ r → m.verdict (run g q w) ≡ v) → Sure v (g.next q a)
        go zero f = sure_here (g.next q a) inside (let is = f [] tt refl in h.verdict_kept q a l s (omega (arith, p, is)) ∙ is)
        go (suc r) f = settles_sure (g.next q a) inside (record { number = r; ends = λ w t e. f (a ∷ w) (s, t) (ap suc e) })

    sure_along : (q : ℕ) (w : List ℕ) → q < g.states → Trace g w → Sure v q → Sure v (run g q w)
    sure_along = lasts (inevitable g (marked m v)) h.closed sure_next

    -- it is found
    sure_found : (q : ℕ) → q < g.states → Sure v q → Hits g (marked m v) q
    sure_found q l e =
        let s = sure_settles q l e in
        let t = long_trace g h.symbols_least s.number in
        record { word = t.word; trace = t.trace; passes = eq-eqb (m.verdict (run g q t.word)) v (s.ends t.word t.trace t.long) }

    -- the number is below that of the states
    pub settles_early : (q : ℕ) → q < g.states → Settles g m.verdict v q → (s : Settles g m.verdict v q) × (s.number < g.states)
    settles_early q l s =
        let e = settles_sure q l s in
        let f = sure_found q l e in
        let some : 0 < count g.states (marked m v) =
        ltb-true 0 (count g.states (marked m v))
        (count_any g.states (marked m v) ∙ any_at g.states (marked m v) _ (run_in h.closed q f.word l f.trace) f.passes) in
        let r = g.states - 1 in (
          record { number = r; ends = sure_ends r q l (inevitable_short g (marked m v) h.closed r q l (omega (arith, some, l)) e) },
          omega (arith, l),
        )

  -- two marks are not settled at one state
  pub sure_one : (v u q : ℕ) → 0 < v → 0 < u → q < g.states → Sure v q → Sure u q → v ≡ u
  sure_one v u q pv pu l e f =
      let t = long_trace g h.symbols_least g.states in
      sym (sure_ends v pv g.states q l e t.word t.trace t.long) ∙ sure_ends u pu g.states q l f t.word t.trace t.long

  -- ---- the number

  -- what the mark of q counts as
  abbrev mark : ℕ → ℕ
  mark q = settled_mark g m.verdict q

  module _ (q : ℕ) (l : q < g.states) where
    -- it is true or false exactly where that is settled
    pub sure_mark : (v : ℕ) → 0 < v → v ≤ 2 → Sure v q → mark q ≡ v
    unfolding settled_mark
    sure_mark v p s x = go (m.verdict q) refl (inevitable g (marked m 1) q) refl (inevitable g (marked m 2) q) refl
      where
        go : (d : ℕ) → m.verdict q ≡ d → (t : Bool) → inevitable g (marked m 1) q ≡ t → (f : Bool) → inevitable g (marked m 2) q ≡ f → settled_from d t f ≡ v
        go zero d true t f e = sure_one 1 v q (omega arith) p l t x
        go zero d false t true e = sure_one 2 v q (omega arith) p l e x
        go zero d false t false e = absurd (either v p s x)
          where
            either : (u : ℕ) → 0 < u → u ≤ 2 → Sure u q → ⊥
            either zero a b y = omega (arith, a)
            either (suc zero) a b y = clash y t
            either (suc (suc zero)) a b y = clash y e
            either (suc (suc (suc u))) a b y = omega (arith, b)
        go (suc u) d b t c e = sure_one (suc u) v q (omega arith) p l (sure_here (suc u) (omega arith) q l d) x

    pub mark_sure : (v : ℕ) → 0 < v → mark q ≡ v → Sure v q
    unfolding settled_mark
    mark_sure v p = go (m.verdict q) refl (inevitable g (marked m 1) q) refl (inevitable g (marked m 2) q) refl
      where
        go : (d : ℕ) → m.verdict q ≡ d → (t : Bool) → inevitable g (marked m 1) q ≡ t → (f : Bool) → inevitable g (marked m 2) q ≡ f
            → settled_from d t f ≡ v → Sure v q
        go zero d true t f e i = subst (λ (u : ℕ). Sure u q) i t
        go zero d false t true e i = subst (λ (u : ℕ). Sure u q) i e
        go zero d false t false e i = absurd (omega (arith, p, i))
        go (suc u) d b t c e i = sure_here v p q l (d ∙ i)

    pub mark_in_lem : mark q ≤ 2
    unfolding settled_mark
    mark_in_lem = go (m.verdict q) (h.verdict_in q l) (inevitable g (marked m 1) q) (inevitable g (marked m 2) q)
      where
        go : (d : ℕ) → d ≤ 2 → (t f : Bool) → settled_from d t f ≤ 2
        go zero s true f = omega arith
        go zero s false true = omega arith
        go zero s false false = omega arith
        go (suc u) s t f = s

    -- true and false stay as drawn
    pub drawn_stays : 0 < m.verdict q → mark q ≡ m.verdict q
    drawn_stays p = sure_mark (m.verdict q) p (h.verdict_in q l) (sure_here (m.verdict q) p q l refl)

    counts_as : CountsAs g m.verdict q (mark q)
    unfolding settled_mark
    counts_as = go (m.verdict q) refl (inevitable g (marked m 1) q) refl (inevitable g (marked m 2) q) refl
      where
        one : 0 < 1
        one = omega arith

        two : 0 < 2
        two = omega arith

        go : (d : ℕ) → m.verdict q ≡ d → (t : Bool) → inevitable g (marked m 1) q ≡ t → (f : Bool) → inevitable g (marked m 2) q ≡ f
            → CountsAs g m.verdict q (settled_from d t f)
        go zero d true t f e = settled_true d (sure_settles 1 one q l t)
        go zero d false t true e = settled_false d (sure_settles 2 two q l e)
        go zero d false t false e = not_yet d (λ s. clash (settles_sure 1 one q l s) t) (λ s. clash (settles_sure 2 two q l s) e)
        go (suc u) d b t c e = subst (CountsAs g m.verdict q) d (as_drawn (omega (arith, d)))

    counts_only : {v : ℕ} → CountsAs g m.verdict q v → v ≡ mark q
    unfolding settled_mark
    counts_only (as_drawn p) = sym (drawn_stays p)
    counts_only (settled_true d s) = sym (sure_mark 1 (omega arith) (omega arith) (settles_sure 1 (omega arith) q l s))
    counts_only (settled_false d s) = sym (sure_mark 2 (omega arith) (omega arith) (settles_sure 2 (omega arith) q l s))
    counts_only (not_yet d t f) =
        rw (
          d,
          not_clash {b = inevitable g (marked m 1) q} (λ e. t (sure_settles 1 (omega arith) q l e)),
          not_clash {b = inevitable g (marked m 2) q} (λ e. f (sure_settles 2 (omega arith) q l e)),
        )

    -- every mark counts as exactly one, and it is `settled_mark`
    pub counts_exact : (v : ℕ) → CountsAs g m.verdict q v ↔ (v ≡ mark q)
    counts_exact v = (counts_only, λ e. subst (CountsAs g m.verdict q) (sym e) counts_as)

-- ---- the monitor with its settled marks, which readings go by

module _ {limit : ℕ} {m : Monitor} (h : WellFormed limit m) (settled : ℕ → ℕ)
    (same : (q : ℕ) → q < m.automaton.states → settled q ≡ settled_mark m.automaton m.verdict q) where
  abbrev s : Monitor
  s = record { automaton = m.automaton; start = m.start; verdict = settled }

  settled_sure : (v q : ℕ) → 0 < v → q < m.automaton.states → settled q ≡ v → Sure h v q
  settled_sure v q p l e = mark_sure h q l v p (sym (same q l) ∙ e)

  sure_settled : (v q : ℕ) → 0 < v → v ≤ 2 → q < m.automaton.states → Sure h v q → settled q ≡ v
  sure_settled v q p i l e = same q l ∙ sure_mark h q l v p i e

  settled_in : (q : ℕ) → q < m.automaton.states → settled q ≤ 2
  settled_in q l = omega (arith, same q l, mark_in_lem h q l)

  -- it is well formed: settled marks are kept by every step
  pub settled_well_formed : WellFormed limit s
  settled_well_formed = record {
    states_most = h.states_most;
    symbols_least = h.symbols_least;
    symbols_most = h.symbols_most;
    start_in = h.start_in;
    closed = h.closed;
    verdict_in = settled_in;
    verdict_kept = λ q a l i p.
        sure_settled (settled q) (m.automaton.next q a) p (settled_in q l) (h.closed.next_in q a l i)
        (sure_next h (settled q) p q a l i (settled_sure (settled q) q p l refl));
  }

  -- settling twice is settling once
  again : (v r q : ℕ) → 0 < v → q < m.automaton.states → inevitable_within m.automaton (marked s v) r q ≡ true → Sure h v q
  unfolding inevitable_within
  again v zero q p l e = settled_sure v q p l (eqb-true (settled q) v e)
  again v (suc r) q p l e =
      ⊎_elim (λ i. settled_sure v q p l (eqb-true (settled q) v i))
      (λ i. sure_before h v p q l (λ a j. again v r (m.automaton.next q a) p (h.closed.next_in q a l j)
      (every_at m.automaton.symbols (λ a. inevitable_within m.automaton (marked s v) r (m.automaton.next q a)) i a j)))
      (or_cases (marked s v q) (every m.automaton.symbols (λ a. inevitable_within m.automaton (marked s v) r (m.automaton.next q a))) e)

  pub settled_twice : (q : ℕ) → q < m.automaton.states → settled_mark m.automaton settled q ≡ settled q
  settled_twice q l = go (settled_mark m.automaton settled q) refl
    where
      go : (v : ℕ) → settled_mark m.automaton settled q ≡ v → v ≡ settled q
      go zero e = zero_or (settled q) refl
        where
          zero_or : (u : ℕ) → settled q ≡ u → 0 ≡ u
          zero_or zero i = refl
          zero_or (suc u) i = absurd (let k = drawn_stays settled_well_formed q l (omega (arith, i)) in omega (arith, k, i, e))
      go (suc v) e =
          let p : 0 < suc v = omega arith in
          let i = mark_in_lem settled_well_formed q l in
          sym (sure_settled (suc v) q p (omega (arith, i, e)) l (again (suc v) m.automaton.states q p l (mark_sure settled_well_formed q l (suc v) p e)))

  -- ---- what can be found stays, monitorability and the states reached with it; a class changes from positive to good or from negative to bad

  leads_settled : (v q : ℕ) → 0 < v → v ≤ 2 → q < m.automaton.states → leads m.automaton (marked s v) q ≡ leads m.automaton (marked m v) q
  leads_settled v q p i l =
      both_ways
      (λ e. (let f = leads_sound m.automaton (marked s v) q e in
      let inside = run_in h.closed q f.word l f.trace in
      let r = sure_found h v p _ inside (settled_sure v _ p inside (eqb-true (settled (run m.automaton q f.word)) v f.passes)) in
      leads_complete m.automaton (marked m v) h.closed q l
      (record {
        word = f.word ++ r.word;
        trace = trace_append m.automaton f.word r.word f.trace r.trace;
        passes = ap (marked m v) (run_append m.automaton q f.word r.word) ∙ r.passes;
      })))
      (λ e. (let f = leads_sound m.automaton (marked m v) q e in
      let inside = run_in h.closed q f.word l f.trace in
      let at = run m.automaton q f.word in
      leads_complete m.automaton (marked s v) h.closed q l
      (record {
        word = f.word;
        trace = f.trace;
        passes = eq-eqb (settled at) v (sure_settled v at p i inside (sure_here h v p at inside (eqb-true (m.verdict at) v f.passes)));
      })))

  -- what can be found stays
  pub finds_settled : (v q : ℕ) → 0 < v → v ≤ 2 → q < m.automaton.states → Finds m v q ↔ Finds s v q
  finds_settled v q p i l =
      let same = leads_settled v q p i l in
      (λ f. found settled_well_formed v q (same ∙ sought h v q l f), λ f. found h v q (sym same ∙ sought settled_well_formed v q l f))

  sure_leads : (v q : ℕ) → 0 < v → q < m.automaton.states → Sure h v q → leads m.automaton (marked m v) q ≡ true
  sure_leads v q p l e = leads_complete m.automaton (marked m v) h.closed q l (sure_found h v p q l e)

  sure_alone : (v u q : ℕ) → 0 < v → 0 < u → (v ≡ u → ⊥) → q < m.automaton.states → Sure h v q → leads m.automaton (marked m u) q ≡ false
  sure_alone v u q p o apart l e =
      not_clash (λ t. (let f = leads_sound m.automaton (marked m u) q t in
      let at = run m.automaton q f.word in
      let inside = run_in h.closed q f.word l f.trace in
      apart (sure_one h v u at p o inside (sure_along h v p q f.word l f.trace e)
      (sure_here h u o at inside (eqb-true (m.verdict at) u f.passes)))))

  pub class_settled : (q : ℕ) → q < m.automaton.states → Becomes (class m q) (class s q)
  unfolding class
  class_settled q l =
      rw (leads_settled 1 q (omega arith) (omega arith) l, leads_settled 2 q (omega arith) (omega arith) l)
      (go (m.verdict q) refl (settled q) refl)
    where
      t : Bool
      t = leads m.automaton (marked m 1) q

      f : Bool
      f = leads m.automaton (marked m 2) q

      go : (d : ℕ) → m.verdict q ≡ d → (v : ℕ) → settled q ≡ v → Becomes (class_from d t f) (class_from v t f)
      go (suc d) i v e = inl (let k = drawn_stays h q l (omega (arith, i)) in let j : v ≡ suc d = omega (arith, i, e, same q l, k) in rw j)
      go zero i zero e = inl refl
      go zero i (suc zero) e =
          (let x = settled_sure 1 q (omega arith) l e in
          inr (inl (rw (sure_leads 1 q (omega arith) l x, sure_alone 1 2 q (omega arith) (omega arith) (λ n. omega (arith, n)) l x) (refl, refl))))
      go zero i (suc (suc zero)) e =
          (let x = settled_sure 2 q (omega arith) l e in
          inr (inr (rw (sure_alone 2 1 q (omega arith) (omega arith) (λ n. omega (arith, n)) l x, sure_leads 2 q (omega arith) l x) (refl, refl))))
      go zero i (suc (suc (suc v))) e = absurd (omega (arith, settled_in q l, e))

  -- what does not tell good from positive and bad from negative does not change
  class_alike : {A : Type 0} (f : ℕ → A) → f 0 ≡ f 2 → f 1 ≡ f 3 → (q : ℕ) → q < m.automaton.states → f (class s q) ≡ f (class m q)
  class_alike f good bad q l =
      ⊎_elim (λ e. ap f e)
      (⊎_elim (λ e. ap f e.1 ∙ good ∙ sym (ap f e.0)) (λ e. ap f e.1 ∙ bad ∙ sym (ap f e.0)))
      (class_settled q l)

  pub monitorability_settled : monitorability s ≡ monitorability m
  unfolding monitorability
  monitorability_settled =
      rw (any_same m.automaton.states (ugly_reached s) (ugly_reached m) (λ q l. class_alike (λ c. reached m q && eqb c 5) refl refl q l))
      (ap (λ (w : ℕ). cond (any m.automaton.states (ugly_reached m)) 3 w) (class_alike weak refl refl m.start h.start_in))

  pub reached_settled : states_reached s ≡ states_reached m
  unfolding states_reached
  reached_settled = refl
