-- One symbol, one state and one round of the search: which rows, columns and symbols are done.
use mathlib.Core.Path.{◌≡◌, refl, sym, ◌∙◌}
use mathlib.Core.Bool.{Bool, true, false, not, ◌&&◌, ◌||◌, and-true}
use mathlib.Core.List.{List}
use mathlib.Core.Logic.{◌⊎◌, inl, inr, ⊎_elim}
use Prim.Native.Nat.{ℕ, suc, ◌+◌, ◌*◌, ◌/◌, ◌≤◌, ◌<◌, zero-le}
use native.Mathlib.Omega.{arith}
use lib.Dec.{eqb, ltb}
use lib.ListN.{length}
use borrow.Author.Tests.{eq-eqb, eqb-true, eqb-false, lt-ltb, le-ltb, ltb-true}
use Rattle.theory.specs.Automaton.{Automaton}
use Rattle.theory.specs.Monitor.{state_limit, symbol_limit}
use Rattle.theory.proofs.Below.{clash, not_clash, lt_or_le, or_cases, or_left, or_right, and_left, and_right, and_both}
use Rattle.state_set.specs.declared.StateSet.{StateSet}
use Rattle.state_set.specs.Member.{is_part, set_at, Put}
use Rattle.state_set.specs.Taking.{Taken}
use Rattle.square.specs.Square.{never, entry}
use Rattle.rows.specs.Sets.{Empty, Preceding, Active}
use Rattle.rows.specs.Midway.{Ground, Front, Midway, GoesAt, set_done}
use Rattle.rows.proofs.Visit.{stays}
use Rattle.rows.proofs.Row.{kept_rows, retired_done}
use Rattle.rows.proofs.Several.{midway_less, goes_less, goes_nowhere, goes_then, lost, keep, taken}
use Rattle.rounds.specs.Layers.{Layer, symbol_done, block_done, part_done, state_done}
use Rattle.rounds.proofs.Layers.{layer_begins, layer_front, layer_next}

-- a predecessor is a state
pub predecessor_in : {g : Automaton} {sets : List StateSet} → Preceding g (λ p a. ltb p g.states) sets → (x a p : ℕ) → x < g.states → a < g.symbols
    → set_at sets (x * symbol_limit + a) p ≡ true → p < g.states
predecessor_in {g} P x a p lx la t = ltb-true p g.states (and_left (ltb p g.states) (eqb (g.next p a) x) (sym (P.at x a p lx la) ∙ t))

-- at first every row is active
pub active_first : {g : Automaton} {ends : ℕ → ℕ → Bool} {r : ℕ} {square : List ℕ} {alike fresh : List StateSet} {rows : ℕ → Bool}
    → Layer g ends r square alike fresh rows
    → g.states ≤ state_limit → (active : List StateSet) → ((w p : ℕ) → w < 2 → p < g.states → set_at active w p ≡ true) → Active g.states alike active
active_first {g} {square = square} L few active full = record {
  at = λ p q lp t.
      let h = and_left (ltb q g.states && not (eqb q p)) (eqb (entry square p q) never) (sym (L.kept.alike_is p q lp) ∙ t) in
      let lq = ltb-true q g.states (and_left (ltb q g.states) (not (eqb q p)) h) in
      full (q / 64) p (omega (arith, lq, few)) lp;
}

-- ---- one symbol

-- the active rows of part v from which a leads to x are those of the set, and they are done in the columns of part w
pub symbol_done_lem : {g : Automaton} (x a v w : ℕ) {r : ℕ} {front : ℕ → Bool} {sets : List StateSet} {square₀ : List ℕ}
    {alike₀ next₀ active₀ : List StateSet} {rows₀ : ℕ → Bool} (set : ℕ → Bool)
    {square : List ℕ} {alike next active : List StateSet} {rows : ℕ → Bool} → x < g.states → a < g.symbols
    → ((p : ℕ) → set p ≡ ((is_part v p && set_at sets (x * symbol_limit + a) p) && (is_part v p && set_at active₀ w p)))
    → GoesAt g r x front (set_done (is_part w) set a) sets square₀ alike₀ next₀ active₀ rows₀ square alike next active rows
    → GoesAt g r x front (symbol_done g x (is_part v) (is_part w) a) sets square₀ alike₀ next₀ active₀ rows₀ square alike next active rows
symbol_done_lem {g} x a v w {sets = sets} {active₀ = active₀} set lx la is step = record {
  goes = λ ends done G F M.
      midway_less (step.goes ends (λ p q b. done p q b || not (set_at active₀ (q / 64) p)) G F (retired_done G M)) (λ p q b lp lq lb t. ⊎_elim
      (λ o. or_left (done p q b || not (set_at active₀ (q / 64) p)) (set_done (is_part w) set a p q b) (or_left (done p q b) (not (set_at active₀ (q / 64) p)) o))
      (λ h.
      let parts = and_left (is_part v p && is_part w q) (eqb (g.next p b) x && eqb b a) h in
      let rest = and_right (is_part v p && is_part w q) (eqb (g.next p b) x && eqb b a) h in
      let ep = and_left (is_part v p) (is_part w q) parts in
      let eq = and_right (is_part v p) (is_part w q) parts in
      let eb = and_right (eqb (g.next p b) x) (eqb b a) rest in
      let ab = eqb-true b a eb in
      let ex = and_left (eqb (g.next p b) x) (eqb b a) rest in
      let at : set_at sets (x * symbol_limit + a) p ≡ true = G.preceding.at x a p lx la
      ∙ and_both (ltb p g.states) (eqb (g.next p a) x) (lt-ltb p g.states lp) (rw (← ab) ex) in
      let ew = eqb-true (q / 64) w eq in
      by (done p q b) (is_part w q) (eqb b a) eq eb (set_at active₀ (q / 64) p) (set p) (is p ∙ rw (ep, at, ew)))
      (or_cases (done p q b) (symbol_done g x (is_part v) (is_part w) a p q b) t));
}
  where
    by : (d c e : Bool) → c ≡ true → e ≡ true → (o s : Bool) → s ≡ o → ((d || not o) || (c && (s && e))) ≡ true
    by d c e tc te true s h = or_right (d || false) (c && (s && e)) (and_both c (s && e) tc (and_both s e h te))
    by d c e tc te false s h = or_left (d || true) (c && (s && e)) (or_right d true refl)

-- ---- one block

module _ {g : Automaton} (x v w : ℕ) {r : ℕ} {front : ℕ → Bool} {sets : List StateSet} {square₀ : List ℕ} {alike₀ next₀ active₀ : List StateSet}
    {rows₀ : ℕ → Bool} where
  pub block_begins : GoesAt g r x front (block_done g x (is_part v) (is_part w) 0) sets square₀ alike₀ next₀ active₀ rows₀ square₀ alike₀ next₀ active₀ rows₀
  block_begins = goes_nowhere (block_done g x (is_part v) (is_part w) 0) (λ p q b lp t.
      clash (and_right (eqb (g.next p b) x) (ltb b 0) (and_right (is_part v p && is_part w q) (eqb (g.next p b) x && ltb b 0) t)) (le-ltb b 0 zero-le))

  pub block_more : (a : ℕ) {square : List ℕ} {alike next active : List StateSet} {square' : List ℕ} {alike' next' active' : List StateSet}
      {rows rows' : ℕ → Bool}
      → GoesAt g r x front (block_done g x (is_part v) (is_part w) a) sets square₀ alike₀ next₀ active₀ rows₀ square alike next active rows
      → GoesAt g r x front (symbol_done g x (is_part v) (is_part w) a) sets square alike next active rows square' alike' next' active' rows'
      → GoesAt g r x front (block_done g x (is_part v) (is_part w) (a + 1)) sets square₀ alike₀ next₀ active₀ rows₀ square' alike' next' active' rows'
  block_more a before step = goes_less (block_done g x (is_part v) (is_part w) (a + 1)) (goes_then before step) (λ p q b lp lq lb t.
      let parts = and_left (is_part v p && is_part w q) (eqb (g.next p b) x && ltb b (a + 1)) t in
      let rest = and_right (is_part v p && is_part w q) (eqb (g.next p b) x && ltb b (a + 1)) t in
      let ex = and_left (eqb (g.next p b) x) (ltb b (a + 1)) rest in
      let l = ltb-true b (a + 1) (and_right (eqb (g.next p b) x) (ltb b (a + 1)) rest) in
      ⊎_elim
      (λ (k : b < a). or_left (block_done g x (is_part v) (is_part w) a p q b) (symbol_done g x (is_part v) (is_part w) a p q b)
      (and_both (is_part v p && is_part w q) (eqb (g.next p b) x && ltb b a) parts (and_both (eqb (g.next p b) x) (ltb b a) ex (lt-ltb b a k))))
      (λ k. or_right (block_done g x (is_part v) (is_part w) a p q b) (symbol_done g x (is_part v) (is_part w) a p q b)
      (and_both (is_part v p && is_part w q) (eqb (g.next p b) x && eqb b a) parts
      (and_both (eqb (g.next p b) x) (eqb b a) ex (eq-eqb b a (omega (arith, k, l))))))
      (lt_or_le b a))

-- ---- all parts

-- a state of n is in part 0 where n is at most 64, and else in one of the two
in_part_lem : (n p : ℕ) → p < n → n ≤ 64 → is_part 0 p ≡ true
in_part_lem n p l m = eq-eqb (p / 64) 0 (omega (arith, l, m))

in_parts : (n p : ℕ) → p < n → n ≤ state_limit → (is_part 0 p ≡ true) ⊎ (is_part 1 p ≡ true)
in_parts n p l m =
    ⊎_elim
    (λ (k : p < 64). inl (eq-eqb (p / 64) 0 (omega (arith, k))))
    (λ (k : 64 ≤ p). inr (eq-eqb (p / 64) 1 (omega (arith, k, l, m))))
    (lt_or_le p 64)

-- where each part of the states is done, by what a test says of it, all are done
module _ {g : Automaton} {r x : ℕ} {front : ℕ → Bool} {sets : List StateSet} {square₀ : List ℕ} {alike₀ next₀ active₀ : List StateSet} {rows₀ : ℕ → Bool}
    (each : ℕ → ℕ → ℕ → ℕ → Bool) (all : ℕ → ℕ → ℕ → Bool) (state : ℕ → ℕ → ℕ)
    (state_in : (p q : ℕ) → p < g.states → q < g.states → state p q < g.states)
    (in_each : (v p q b : ℕ) → is_part v (state p q) ≡ true → all p q b ≡ true → each v p q b ≡ true) where
  pub one_part : {square : List ℕ} {alike next active : List StateSet} {rows : ℕ → Bool} → g.states ≤ 64
      → GoesAt g r x front (each 0) sets square₀ alike₀ next₀ active₀ rows₀ square alike next active rows
      → GoesAt g r x front all sets square₀ alike₀ next₀ active₀ rows₀ square alike next active rows
  one_part few step = goes_less all step (λ p q b lp lq lb t. in_each 0 p q b (in_part_lem g.states (state p q) (state_in p q lp lq) few) t)

  pub two_parts : {square : List ℕ} {alike next active : List StateSet} {square' : List ℕ} {alike' next' active' : List StateSet}
      {rows rows' : ℕ → Bool} → g.states ≤ state_limit
      → GoesAt g r x front (each 0) sets square₀ alike₀ next₀ active₀ rows₀ square alike next active rows
      → GoesAt g r x front (each 1) sets square alike next active rows square' alike' next' active' rows'
      → GoesAt g r x front all sets square₀ alike₀ next₀ active₀ rows₀ square' alike' next' active' rows'
  two_parts few low high = goes_less all (goes_then low high) (λ p q b lp lq lb t. ⊎_elim
      (λ e. or_left (each 0 p q b) (each 1 p q b) (in_each 0 p q b e t))
      (λ e. or_right (each 0 p q b) (each 1 p q b) (in_each 1 p q b e t))
      (in_parts g.states (state p q) (state_in p q lp lq) few))

-- the columns of a part, for rows of part v; and the rows of a part
pub in_columns : (g : Automaton) (x k v w p q b : ℕ) → is_part w q ≡ true → part_done g x (is_part v) k p q b ≡ true
    → block_done g x (is_part v) (is_part w) k p q b ≡ true
in_columns g x k v w p q b e t =
    and_both (is_part v p && is_part w q) (state_done g x k p q b)
    (and_both (is_part v p) (is_part w q) (and_left (is_part v p) (state_done g x k p q b) t) e) (and_right (is_part v p) (state_done g x k p q b) t)

pub in_rows : (g : Automaton) (x k v p q b : ℕ) → is_part v p ≡ true → state_done g x k p q b ≡ true → part_done g x (is_part v) k p q b ≡ true
in_rows g x k v p q b e t = and_both (is_part v p) (state_done g x k p q b) e t

-- ---- one round

-- the same states in front
pub front_same : {g : Automaton} {ends : ℕ → ℕ → Bool} {r x : ℕ} {front other : ℕ → Bool} → Front g ends r x front → ((y : ℕ) → other y ≡ front y)
    → Front g ends r x other
front_same F e = record {
  sound = λ y t. F.sound y (sym (e y) ∙ t);
  all = λ y ly t. ⊎_elim (λ f. inl (e y ∙ f)) inr (F.all y ly t);
}

-- the rows that lead to a state which is in the set and not left are done; the fresh states of those left are as they were
pub record Spreading (g : Automaton) (ends : ℕ → ℕ → Bool) (r : ℕ) (rows left : ℕ → Bool) (fresh₀ fresh : List StateSet) (square : List ℕ)
    (alike next active : List StateSet)
    (found : ℕ → Bool) : Type 0 where
  pub midway : Midway g ends r (λ p q a. rows (g.next p a) && not (left (g.next p a))) square alike next active found
  pub size : g.states ≤ length fresh
  pub within : (x : ℕ) → left x ≡ true → rows x ≡ true
  pub fresh_left : (x q : ℕ) → x < g.states → set_at fresh x q ≡ (left x && set_at fresh₀ x q)

module _ {g : Automaton} {ends : ℕ → ℕ → Bool} {r : ℕ} {square₀ : List ℕ} {alike₀ fresh₀ : List StateSet} {rows : ℕ → Bool} {sets : List StateSet}
    (G : Ground g ends sets)
    (L : Layer g ends r square₀ alike₀ fresh₀ rows) where
  -- the rows that are below the number of states are all the rows
  pub rows_below : (all left : ℕ → Bool) → ((q : ℕ) → all q ≡ ltb q g.states) → ((q : ℕ) → left q ≡ (rows q && all q)) → (q : ℕ) → left q ≡ rows q
  rows_below all left ia il q = il q ∙ go (rows q) refl
    where
      go : (b : Bool) → rows q ≡ b → (b && all q) ≡ b
      go true e = ia q ∙ lt-ltb q g.states (L.kept.rows_some q e).0
      go false e = refl

  pub spreading_begins : {left : ℕ → Bool} {next active : List StateSet} {found : ℕ → Bool} → ((q : ℕ) → left q ≡ rows q)
      → r + 1 < never → Empty g.states next → Active g.states alike₀ active
      → ((p : ℕ) → found p ≡ false) → Spreading g ends r rows left fresh₀ fresh₀ square₀ alike₀ next active found
  spreading_begins {left} {next} {active} {found} il fits N A none = record {
    midway = record {
      active_rows = A;
      kept = kept_rows M.kept none;
      old = M.old;
      known = M.known;
      new = M.new;
      covered = λ p q a lp lq la d. (let h = lost (rows (g.next p a)) (left (g.next p a)) d in absurd (clash h.0 (sym (il (g.next p a)) ∙ h.1)));
    };
    size = L.kept.fresh_size;
    within = λ x t. sym (il x) ∙ t;
    fresh_left = λ x q lx. at_first x q lx (rows x) refl ∙ rw (← il x) refl;
  }
    where
      at_first : (x q : ℕ) → x < g.states → (b : Bool) → rows x ≡ b → set_at fresh₀ x q ≡ (rows x && set_at fresh₀ x q)
      at_first x q lx true e = rw e refl
      at_first x q lx false e = rw e (not_clash (λ t. clash (L.kept.rows_all x q lx t) e))

      M : Midway g ends r (λ p q a. false) square₀ alike₀ next active (λ p. false)
      M = layer_begins L fits N A

  module _ {left : ℕ → Bool} {fresh : List StateSet} {square : List ℕ} {alike next active : List StateSet} {found : ℕ → Bool}
      (S : Spreading g ends r rows left fresh₀ fresh square alike next active found) where
    module _ {x : ℕ} {left' : ℕ → Bool} (T : Taken state_limit left x left') where
      row_in : x < g.states
      row_in = (L.kept.rows_some x (S.within x T.lowest.found)).0

      -- what is read of the fresh states of x, those past the last state left out
      fronted : (all front : ℕ → Bool) → ((q : ℕ) → all q ≡ ltb q g.states) → ((q : ℕ) → front q ≡ (set_at fresh x q && all q))
          → (y : ℕ) → front y ≡ set_at fresh₀ x y
      fronted all front ia is y =
          let e : set_at fresh x y ≡ set_at fresh₀ x y = S.fresh_left x y row_in ∙ rw T.lowest.found in
          is y ∙ rw (e, ia y) (⊎_elim
          (λ (l : y < g.states). rw (lt-ltb y g.states l) (and-true (set_at fresh₀ x y)))
          (λ l. rw (le-ltb y g.states l, L.kept.fresh_is x y row_in, le-ltb y g.states l))
          (lt_or_le y g.states))

      pub spreading_more : (all : ℕ → Bool) {k : ℕ} {front none : ℕ → Bool} {fresh' : List StateSet} {square' : List ℕ}
          {alike' next' active' : List StateSet} {found' : ℕ → Bool} →
          g.symbols ≡ k
          → ((q : ℕ) → all q ≡ ltb q g.states) → ((q : ℕ) → front q ≡ (set_at fresh x q && all q))
          → ((q : ℕ) → none q ≡ false) → Put fresh x none fresh'
          → GoesAt g r x front (state_done g x k) sets square alike next active found square' alike' next' active' found'
          → Spreading g ends r rows left' fresh₀ fresh' square' alike' next' active' found'
      spreading_more all {k} {front} {none} {fresh'} ek ia is bare P step = record {
        midway = midway_less (step.goes ends (λ p q a. rows (g.next p a) && not (left (g.next p a))) G
            (front_same (layer_front L x row_in) (fronted all front ia is)) S.midway)
            (λ p q a lp lq la t.
            let h = lost (rows (g.next p a)) (left' (g.next p a)) t in
            ⊎_elim
            (λ w. or_left (rows (g.next p a) && not (left (g.next p a))) (state_done g x k p q a) (keep h.0 w))
            (λ w. or_right (rows (g.next p a) && not (left (g.next p a))) (state_done g x k p q a)
            (and_both (eqb (g.next p a) x) (ltb a k) (eq-eqb (g.next p a) x w) (lt-ltb a k (omega (arith, la, ek)))))
            (taken left left' T.others (g.next p a) h.1));
        size = rw P.size S.size;
        within = λ z t. S.within z (stays left left' (λ q. eqb q x) T.others z t);
        fresh_left = λ z q lz. by z q lz (eqb z x) refl;
      }
        where
          by : (z q : ℕ) → z < g.states → (b : Bool) → eqb z x ≡ b → set_at fresh' z q ≡ (left' z && set_at fresh₀ z q)
          by z q lz true h =
              let e = eqb-true z x h in
              rw e (P.here q ∙ bare q ∙ rw (T.others x, eq-eqb x x refl, T.lowest.found))
          by z q lz false h = P.elsewhere z q (eqb-false z x h) ∙ S.fresh_left z q lz ∙ rw (T.others z, h) (go (left z))
            where
              go : (b : Bool) → (b && set_at fresh₀ z q) ≡ ((b && true) && set_at fresh₀ z q)
              go true = refl
              go false = refl

    pub spreading_ends : ((q : ℕ) → left q ≡ false) → Layer g ends (suc r) square alike next found × Empty g.states fresh × Active g.states alike active
    spreading_ends none = (
      layer_next L G.closed S.midway (λ p q a lp lq la t. keep t (none (g.next p a))),
      record { size = S.size; none = λ z q lz. S.fresh_left z q lz ∙ rw (none z) },
      S.midway.active_rows,
    )
