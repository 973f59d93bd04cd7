-- Classes, monitorability and the number of states reached, read off sets of states, are those of the table.
use mathlib.Core.Path.{◌≡◌, refl, sym, ap, subst, ◌∙◌}
use mathlib.Core.Bool.{Bool, true, false, not, ◌&&◌, ◌||◌, and-false}
use mathlib.Core.List.{List}
use Prim.Native.Nat.{ℕ, zero, suc, ◌≤◌, ◌<◌}
use native.Mathlib.Omega.{arith}
use lib.Dec.{eqb, ltb}
use lib.ListN.{length, get_or}
use borrow.Author.Tests.{eq-eqb, lt-ltb, le-ltb}
use Rattle.theory.specs.Below.{any, count}
use Rattle.theory.specs.Automaton.{leads, reached_from}
use Rattle.theory.specs.Monitor.{Monitor, WellFormed, marked, class_from, class, weak, reached, ugly_reached, monitorability, states_reached}
use Rattle.theory.proofs.Below.{clash, not_clash, is_true, and_right, any_find, any_same, any_short, count_le, count_same, count_more, count_short, count_any}
use Rattle.theory.proofs.Reach.{hits_here, leads_complete}
use Rattle.state_set.specs.declared.StateSet.{StateSet}
use Rattle.state_set.specs.Member.{member, Exactly}
use Rattle.monitor.specs.Format.{automaton_of, table_of, Table}
use Rattle.reach.proofs.Exactly.{exactly_at, exactly_in, exactly_out}
use Rattle.opening.specs.Marks.{has_mark}

-- a state is ugly where neither true nor false can be reached from it, its own verdict included
ugly_class : {limit : ℕ} {m : Monitor} → WellFormed limit m → (q : ℕ) → q < m.automaton.states
    → eqb (class m q) 5 ≡ (not (leads m.automaton (marked m 1) q) && not (leads m.automaton (marked m 2) q))
unfolding class
ugly_class {m = m} w q l =
    go (m.verdict q) refl (w.verdict_in q l) (leads m.automaton (marked m 1) q) refl (leads m.automaton (marked m 2) q) refl
  where
    own : (v : ℕ) → m.verdict q ≡ v → leads m.automaton (marked m v) q ≡ true
    own v e = leads_complete m.automaton (marked m v) w.closed q l (hits_here m.automaton (marked m v) q (eq-eqb (m.verdict q) v e))

    go : (v : ℕ) → m.verdict q ≡ v → v ≤ 2 → (t : Bool) → leads m.automaton (marked m 1) q ≡ t → (f : Bool) → leads m.automaton (marked m 2) q ≡ f
        → eqb (class_from v t f) 5 ≡ (not t && not f)
    go zero e r true a true b = refl
    go zero e r true a false b = refl
    go zero e r false a true b = refl
    go zero e r false a false b = refl
    go (suc zero) e r t a f b = rw (sym a ∙ own 1 e)
    go (suc (suc zero)) e r t a f b = rw (sym b ∙ own 2 e) (sym (and-false (not t)))
    go (suc (suc (suc v))) e r t a f b = absurd (omega arith)

-- the states with a mark, of marks that are lent
pub lent_marked : {n : ℕ} (v : ℕ) {vs lent : List ℕ} {s : StateSet} → lent ≡ vs → length vs ≡ n → Exactly (length lent) (has_mark lent v) s
    → Exactly n (has_mark vs v) s
lent_marked v {s = s} e l x = exactly_at l (subst (λ (vs : List ℕ). Exactly (length vs) (has_mark vs v) s) e x)

-- ---- t and f are the states from which true and false can be reached, u those from which either can

module _ {limit n k s : ℕ} {vs ts : List ℕ} (table : Table limit n k s vs ts) {t f : StateSet} (et : Exactly n (leads (automaton_of n k ts) (has_mark vs 1)) t)
    (ef : Exactly n (leads (automaton_of n k ts) (has_mark vs 2)) f) where
  abbrev m : Monitor
  m = table_of n k s vs ts

  pub class_at : (q : ℕ) → q < n → class_from (get_or vs q 0) (member t q) (member f q) ≡ class m q
  unfolding class
  class_at q l = rw (exactly_in et q l, exactly_in ef q l)

  module _ (u : StateSet) (eu : (q : ℕ) → member u q ≡ (member t q || member f q)) where
    ugly_at : (q : ℕ) → q < n → not (member u q) ≡ eqb (class m q) 5
    ugly_at q l = rw (eu q, exactly_in et q l, exactly_in ef q l, ugly_class table.well_formed q l) (neither (leads (automaton_of n k ts) (has_mark vs 1) q) _)
      where
        neither : (a b : Bool) → not (a || b) ≡ (not a && not b)
        neither true b = refl
        neither false b = refl

    -- where some verdict can be found from as many states as there are, none is ugly
    pub all_open : {c : ℕ} → count limit (member u) ≡ n → c ≡ class m s → weak c ≡ monitorability m
    unfolding monitorability
    all_open full e = rw (none, e)
      where
        within : count n (member u) ≡ n
        within = sym (count_short n limit (member u) table.rows.states_most (λ q l _. eu q ∙ rw (exactly_out et q l, exactly_out ef q l))) ∙ full

        every_state : (q : ℕ) → q < n → member u q ≡ true
        every_state q l = is_true (λ z. (let more = count_more n (member u) (λ _. true) (λ p _ _. refl) q l z refl in
            let most = count_le n (λ _. true) in omega (arith, more, most, within)))

        none : any n (ugly_reached m) ≡ false
        none = not_clash (λ z. (let b = any_find n (ugly_reached m) z in
            clash (ugly_at b.0 b.1 ∙ and_right (reached m b.0) (eqb (class m b.0) 5) b.2) (ap not (every_state b.0 b.1))))

    -- r are the states reached, d those of them that are ugly
    module _ {r : StateSet} (d : StateSet) (er : Exactly n (reached_from (automaton_of n k ts) s) r)
        (ed : (q : ℕ) → member d q ≡ (member r q && not (member u q))) where
      ugly_found : ltb 0 (count limit (member d)) ≡ any n (ugly_reached m)
      ugly_found =
          count_any limit (member d)
          ∙ any_short n limit (member d) table.rows.states_most (λ q l _. ed q ∙ rw (exactly_out er q l))
          ∙ any_same n (member d) (ugly_reached m) (λ q l. ed q ∙ rw (exactly_in er q l, ugly_at q l))

      pub some_ugly : 0 < count limit (member d) → 3 ≡ monitorability m
      unfolding monitorability
      some_ugly l = rw (← ugly_found, lt-ltb 0 (count limit (member d)) l)

      pub none_ugly : {c : ℕ} → count limit (member d) ≤ 0 → c ≡ class m s → weak c ≡ monitorability m
      unfolding monitorability
      none_ugly l e = rw (← ugly_found, le-ltb 0 (count limit (member d)) l, e)

module _ {limit n k s : ℕ} {vs ts : List ℕ} (table : Table limit n k s vs ts) {r : StateSet} (er : Exactly n (reached_from (automaton_of n k ts) s) r) where
  pub reached_is : count limit (member r) ≡ states_reached (table_of n k s vs ts)
  unfolding states_reached
  reached_is =
      count_short n limit (member r) table.rows.states_most (λ q l _. exactly_out er q l)
      ∙ count_same n (member r) (reached (table_of n k s vs ts)) (exactly_in er)
