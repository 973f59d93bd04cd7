-- Settling in place: states take marks until none takes any, and then every mark is the settled one.
use mathlib.Core.Path.{◌≡◌, refl, sym, ap, subst, ◌∙◌}
use mathlib.Core.Bool.{Bool, true, false, cond, not, ◌&&◌, and-false}
use mathlib.Core.List.{List, ◌++◌}
use mathlib.Core.Logic.{⊎_elim}
use Prim.Native.Nat.{ℕ, zero, suc, ◌+◌, ◌-◌, ◌*◌, ◌≤◌, ◌<◌}
use native.Mathlib.Nat.{le_refl}
use native.Mathlib.Omega.{arith}
use lib.Dec.{eqb}
use lib.ListN.{length, take, drop, set, length-set, take-append-drop}
use lib.Seq.{take-length, drop_at, drop-set-lt, get_or-set_same, get_or-set_other}
use borrow.Author.Tests.{eqb-true, eq-eqb, ne_eqb}
use Rattle.theory.specs.Below.{every, count, values}
use Rattle.theory.specs.Automaton.{Automaton, inevitable_within, inevitable}
use Rattle.theory.specs.Monitor.{Monitor, WellFormed, marked, state_limit}
use Rattle.theory.specs.Settled.{settled_mark}
use Rattle.theory.proofs.Below.{or_cases, and_left, and_right, same_or_not, every_at, every_all, count_le, count_more}
use Rattle.theory.proofs.Values.{filled, length_filled, get_or_filled, length_values, values_front, values_same}
use Rattle.theory.proofs.Inevitable.{inevitable_enough}
use Rattle.theory.proofs.Settled.{sure_here, sure_before, sure_one, sure_mark, mark_sure}
use Rattle.monitor.specs.Format.{automaton_of, table_of, settled_marks, Table}
use Rattle.opening.specs.Marks.{mark_in, all_lead_to, new_mark}

-- ---- the mark that a state takes

module _ (g : Automaton) (mark : ℕ → ℕ) (q : ℕ) where
  -- it takes none where it has one, where the first of its next states has none, and where they do not all have the same
  pub none_taken : (mark q ≡ 0 → ⊥) → 0 ≡ new_mark g mark q
  none_taken ne = rw (ne_eqb (mark q) 0 ne)

  pub none_there : mark (g.next q 0) ≡ 0 → 0 ≡ new_mark g mark q
  none_there e = rw e (go (eqb (mark q) 0 && all_lead_to g mark q 0))
    where
      go : (b : Bool) → ◌≡◌ {A = ℕ} 0 (cond b 0 0)
      go true = refl
      go false = refl

  pub not_all : false ≡ all_lead_to g mark q (mark (g.next q 0)) → 0 ≡ new_mark g mark q
  not_all e = rw (← e, and-false (eqb (mark q) 0))

  pub all_alike : mark q ≡ 0 → true ≡ all_lead_to g mark q (mark (g.next q 0)) → mark (g.next q 0) ≡ new_mark g mark q
  all_alike z e = rw (z, ← e)

  -- where it takes one it has none, and every symbol leads to that one
  new_some : 0 < new_mark g mark q → (mark q ≡ 0) × ((a : ℕ) → a < g.symbols → mark (g.next q a) ≡ new_mark g mark q)
  new_some = go (eqb (mark q) 0 && all_lead_to g mark q v) refl
    where
      v : ℕ
      v = mark (g.next q 0)

      go : (b : Bool) → (eqb (mark q) 0 && all_lead_to g mark q v) ≡ b → 0 < cond b v 0
          → (mark q ≡ 0) × ((a : ℕ) → a < g.symbols → mark (g.next q a) ≡ cond b v 0)
      go true e l = (
        eqb-true (mark q) 0 (and_left (eqb (mark q) 0) (all_lead_to g mark q v) e),
        λ a i. eqb-true (mark (g.next q a)) v
            (every_at g.symbols (λ a. eqb (mark (g.next q a)) v) (and_right (eqb (mark q) 0) (all_lead_to g mark q v) e) a i),
      )
      go false e l = absurd (omega (arith, l))

  -- where it takes none, it has one or its next states do not all have the same
  new_none : new_mark g mark q ≡ 0 → 0 < g.symbols → mark q ≡ 0 → (v : ℕ) → 0 < v → ((a : ℕ) → a < g.symbols → mark (g.next q a) ≡ v) → ⊥
  new_none e k z v p same =
      let here = same 0 k in
      let all = every_all g.symbols (λ a. eqb (mark (g.next q a)) (mark (g.next q 0)))
      (λ a i. eq-eqb (mark (g.next q a)) (mark (g.next q 0)) (same a i ∙ sym here)) in
      let is = all_alike z (sym all) in
      omega (arith, is, e, here, p)

-- ---- marks in the middle of it: those drawn are kept, and every mark is settled where it stands

pub record Settling (m : Monitor) (mark : ℕ → ℕ) : Type 0 where
  pub kept : (q : ℕ) → q < m.automaton.states → 0 < m.verdict q → mark q ≡ m.verdict q
  pub sure : (q : ℕ) → q < m.automaton.states → 0 < mark q → inevitable m.automaton (marked m (mark q)) q ≡ true
  pub small : (q : ℕ) → q < m.automaton.states → mark q ≤ 2

module _ {limit : ℕ} {m : Monitor} (w : WellFormed limit m) where
  abbrev g : Automaton
  g = m.automaton

  settling_first : {mark : ℕ → ℕ} → ((q : ℕ) → q < g.states → mark q ≡ m.verdict q) → Settling m mark
  settling_first {mark} e = record {
    kept = λ q l p. e q l;
    sure = λ q l p. sure_here w (mark q) p q l (sym (e q l));
    small = λ q l. omega (arith, e q l, w.verdict_in q l);
  }

  -- q takes a mark
  settling_turn : {mark mark' : ℕ → ℕ} (q : ℕ) → q < g.states → Settling m mark → 0 < new_mark g mark q → mark' q ≡ new_mark g mark q
      → ((p : ℕ) → (p ≡ q → ⊥) → mark' p ≡ mark p) → Settling m mark'
  settling_turn {mark} {mark'} q lq x new here there = record {
    kept = λ p l h. ⊎_elim (λ e. absurd (taken e (x.kept p l h) h)) (λ n. there p n ∙ x.kept p l h) (same_or_not p q);
    sure = λ p l h. ⊎_elim
        (λ e. subst (λ (z : ℕ). inevitable g (marked m (mark' z)) z ≡ true) (sym e) (rw here settles))
        (λ n. rw (there p n) (x.sure p l (omega (arith, h, there p n))))
        (same_or_not p q);
    small = λ p l. ⊎_elim
        (λ e. (let z = ap mark' e in omega (arith, z, here, s.1 0 w.symbols_least, x.small (g.next q 0) (inside 0 w.symbols_least))))
        (λ n. omega (arith, there p n, x.small p l))
        (same_or_not p q);
  }
    where
      s : (mark q ≡ 0) × ((a : ℕ) → a < g.symbols → mark (g.next q a) ≡ new_mark g mark q)
      s = new_some g mark q new

      inside : (a : ℕ) → a < g.symbols → g.next q a < g.states
      inside a i = w.closed.next_in q a lq i

      taken : {p : ℕ} → p ≡ q → mark p ≡ m.verdict p → 0 < m.verdict p → ⊥
      taken e k h = (let z = ap mark e ∙ s.0 in omega (arith, z, k, h))

      settles : inevitable g (marked m (new_mark g mark q)) q ≡ true
      settles =
          sure_before w (new_mark g mark q) new q lq
          (λ a i. subst (λ (v : ℕ). inevitable g (marked m v) (g.next q a) ≡ true) (s.1 a i)
          (x.sure (g.next q a) (inside a i) (let z = s.1 a i in omega (arith, z, new))))

  module _ {mark : ℕ → ℕ} (x : Settling m mark) (none : (q : ℕ) → q < g.states → new_mark g mark q ≡ 0) where
    -- what every trace of r symbols leads to was taken
    was_taken : (v : ℕ) → 0 < v → (r q : ℕ) → q < g.states → inevitable_within g (marked m v) r q ≡ true → mark q ≡ v
    unfolding inevitable_within
    was_taken v p zero q l e = (let d = eqb-true (m.verdict q) v e in x.kept q l (omega (arith, d, p)) ∙ d)
    was_taken v p (suc r) q l e =
        ⊎_elim
        (λ i. (let d = eqb-true (m.verdict q) v i in x.kept q l (omega (arith, d, p)) ∙ d))
        (λ i. go (mark q) refl (λ a j. was_taken v p r (g.next q a) (w.closed.next_in q a l j)
        (every_at g.symbols (λ a. inevitable_within g (marked m v) r (g.next q a)) i a j)))
        (or_cases (marked m v q) (every g.symbols (λ a. inevitable_within g (marked m v) r (g.next q a))) e)
      where
        go : (u : ℕ) → mark q ≡ u → ((a : ℕ) → a < g.symbols → mark (g.next q a) ≡ v) → u ≡ v
        go zero z all = absurd (new_none g mark q (none q l) w.symbols_least z v p all)
        go (suc u) z all =
            sure_one w (suc u) v q (omega arith) p l
            (subst (λ (i : ℕ). inevitable g (marked m i) q ≡ true) z (x.sure q l (omega (arith, z))))
            (inevitable_enough g (marked m v) w.closed (suc r) q l e)

    settling_last : (q : ℕ) → q < g.states → mark q ≡ settled_mark g m.verdict q
    settling_last q l = go (mark q) refl (settled_mark g m.verdict q) refl
      where
        go : (u : ℕ) → mark q ≡ u → (v : ℕ) → settled_mark g m.verdict q ≡ v → u ≡ v
        go zero z zero e = refl
        go zero z (suc v) e = sym z ∙ was_taken (suc v) (omega arith) g.states q l (mark_sure w q l (suc v) (omega arith) e)
        go (suc u) z v e =
            sym (sure_mark w q l (suc u) (omega arith) (omega (arith, z, x.small q l))
            (subst (λ (i : ℕ). inevitable g (marked m i) q ≡ true) z (x.sure q l (omega (arith, z))))) ∙ e

-- ---- the same in an area: behind the marks it is as it was, and no state below q takes a mark

pub record Going (n k s : ℕ) (vs ts before area : List ℕ) (q : ℕ) : Type 0 where
  pub upto : q ≤ n
  pub size : length area ≡ length before
  pub rest : drop n area ≡ drop n before
  pub settling : Settling (table_of n k s vs ts) (mark_in area)
  pub none : (p : ℕ) → p < q → new_mark (automaton_of n k ts) (mark_in area) p ≡ 0

-- how many marks it has, and how far it is: with each turn there are more marks, or it is further
abbrev pub marks_in : ℕ → List ℕ → ℕ
marks_in n area = count n (λ q. not (eqb (mark_in area q) 0))

abbrev pub ahead : ℕ → List ℕ → ℕ → ℕ
ahead n area q = (n - marks_in n area) * 129 + (n - q)

-- the marks drawn were copied into the area
module _ {n k s : ℕ} {vs ts copied : List ℕ} (t : Table state_limit n k s vs ts) (area : List ℕ) (room : n ≤ length area)
    (e : copied ≡ vs ++ drop (length vs) area) where
  is_filled : copied ≡ filled (mark_in vs) area n
  is_filled =
      e ∙ ap (λ (front : List ℕ). front ++ drop (length vs) area) (sym (values_front vs (length vs) (le_refl (length vs)) ∙ take-length vs))
      ∙ ap (filled (mark_in vs) area) t.marks_length

  pub copied_size : length copied ≡ length area
  copied_size = rw is_filled (length_filled (mark_in vs) area n room)

  pub copied_rest : drop n copied ≡ drop n area
  copied_rest = rw is_filled (drop_at (values n (mark_in vs)) (drop n area) n (length_values n (mark_in vs)))

  pub going_first : Going n k s vs ts copied copied 0
  going_first = record {
    upto = omega arith;
    size = refl;
    rest = refl;
    settling = settling_first t.well_formed (λ q l. rw is_filled (get_or_filled (mark_in vs) (drop n area) n q l));
    none = λ p l. absurd (omega arith);
  }

module _ {n k s : ℕ} {vs ts before : List ℕ} (t : Table state_limit n k s vs ts) where
  module _ {area : List ℕ} {q v : ℕ} (x : Going n k s vs ts before area q) (l : q < n) (is : v ≡ new_mark (automaton_of n k ts) (mark_in area) q) where
    -- q takes none
    pub going_on : v ≡ 0 → Going n k s vs ts before area (q + 1)
    going_on z = record {
      upto = omega arith;
      size = x.size;
      rest = x.rest;
      settling = x.settling;
      none = λ p h. ⊎_elim (λ e. rw e (sym is ∙ z)) (λ e. x.none p (omega (arith, h, e))) (same_or_not p q);
    }

    module _ (some : v ≡ 0 → ⊥) (room : n ≤ length before) where
      here : mark_in (set area q v) q ≡ v
      here = get_or-set_same area q v 0 (omega (arith, l, room, x.size))

      there : (p : ℕ) → (p ≡ q → ⊥) → mark_in (set area q v) p ≡ mark_in area p
      there p ne = get_or-set_other area q p v 0 ne

      new : 0 < new_mark (automaton_of n k ts) (mark_in area) q
      new = omega (arith, is, some)

      -- q takes v
      pub going_again : Going n k s vs ts before (set area q v) 0
      going_again = record {
        upto = omega arith;
        size = length-set area q v ∙ x.size;
        rest = drop-set-lt n area q v l ∙ x.rest;
        settling = settling_turn t.well_formed q l x.settling new (here ∙ is) there;
        none = λ p h. absurd (omega arith);
      }

      pub going_less : ahead n (set area q v) 0 < ahead n area q
      going_less =
          let more = count_more n (λ p. not (eqb (mark_in area p) 0)) (λ p. not (eqb (mark_in (set area q v) p) 0)) kept q l
          (rw (new_some (automaton_of n k ts) (mark_in area) q new).0) (rw (here, ne_eqb v 0 some)) in
          let most = count_le n (λ p. not (eqb (mark_in (set area q v) p) 0)) in
          omega (arith, more, most, t.rows.states_most, l)
        where
          kept : (p : ℕ) → p < n → not (eqb (mark_in area p) 0) ≡ true → not (eqb (mark_in (set area q v) p) 0) ≡ true
          kept p lp h = ⊎_elim (λ e. rw e (rw (here, ne_eqb v 0 some))) (λ ne. rw (there p ne) h) (same_or_not p q)

  pub going_last : {area : List ℕ} {q : ℕ} → Going n k s vs ts before area q → n ≤ q → n ≤ length before → area ≡ settled_marks n k vs ts ++ drop n before
  going_last {area} x l room =
      sym (take-append-drop n area)
      ∙ ap (λ (r : List ℕ). take n area ++ r) x.rest
      ∙ ap (λ (front : List ℕ). front ++ drop n before) (sym (values_front area n (omega (arith, room, x.size)))
      ∙ values_same n (mark_in area) (settled_mark (automaton_of n k ts) (mark_in vs))
      (settling_last t.well_formed x.settling (λ p h. x.none p (omega (arith, h, l)))))
