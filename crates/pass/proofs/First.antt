-- The pass before the first round.
use mathlib.Core.Path.{◌≡◌, refl, sym, ◌∙◌}
use mathlib.Core.Bool.{Bool, true, false, cond, not, ◌&&◌, ◌||◌, and-true, and-false, or-false}
use mathlib.Core.List.{List}
use mathlib.Core.Logic.{inl, inr, ⊎_elim}
use Prim.Native.Nat.{ℕ, ◌+◌, ◌*◌, ◌-◌, ◌≤◌, ◌<◌, zero-le}
use native.Mathlib.Nat.{le_refl}
use native.Mathlib.Omega.{arith}
use lib.Dec.{eqb, ltb}
use lib.ListN.{length, set}
use borrow.Author.Tests.{eq-eqb, ne_eqb, lt-ltb, le-ltb, ltb-true}
use Rattle.theory.specs.Monitor.{state_limit}
use Rattle.theory.proofs.Below.{clash, lt_or_le, same_or_not, or_right, and_left}
use Rattle.state_set.specs.declared.StateSet.{StateSet}
use Rattle.state_set.specs.Member.{member, set_at, Put}
use Rattle.square.specs.declared.Test.{Test}
use Rattle.square.specs.Square.{never, place, HasRows, entry, passing, Blank}
use Rattle.rows.specs.declared.search.Fresh.{Fresh}
use Rattle.rows.specs.Sets.{Empty, Entered}
use Rattle.rows.specs.Searching.{Bare}
use Rattle.rows.proofs.Gather.{entered_one}
use Rattle.pass.specs.declared.Position.{Position}
use Rattle.pass.specs.Pass.{start, next, pair}
use Rattle.pass.specs.Begun.{Begun, PairBegun, RowDone}
use Rattle.pass.proofs.Pass.{row_is, column_is, On, on_start, on_next, on_over, on_numbered, on_row, on_column}

-- an entry of 0 or never is 0 where the test says so
pub zero_where : (c : Bool) → eqb (cond c 0 never) 0 ≡ c
zero_where true = refl
zero_where false = refl

pub begun_none : {test : Test} {outs square : List ℕ} {alike : List StateSet} {fresh : Fresh} → length outs ≤ state_limit → Blank (length outs) square
    → Empty (length outs) alike → Bare (length outs) fresh → Begun test outs 0 0 square alike fresh.sets (member fresh.rows)
begun_none {outs = outs} {square = square} small blank A F = record {
  kept = record {
    size = blank.size;
    alike_size = A.size;
    fresh_size = F.sets.size;
    alike_is = λ p q l. absurd (omega arith);
    fresh_is = λ p q l. absurd (omega arith);
    rows_some = λ p t. absurd (clash t (F.rows p));
    rows_all = λ p q l. absurd (omega arith);
  };
  entries = λ p q lp lq. filled p q lp lq ∙ rw (le-ltb (p * length outs + q) 0 zero-le);
  noted = λ p q lp. F.sets.none p q lp ∙ ⊎_elim
      (λ (lq : q < length outs). rw (lt-ltb q (length outs) lq, filled p q lp lq))
      (λ out. rw (le-ltb q (length outs) out))
      (lt_or_le q (length outs));
}
  where
    filled : (p q : ℕ) → p < length outs → q < length outs → entry square p q ≡ never
    filled p q lp lq = blank.filled (place p q) (let r = blank.size in omega (arith, lp, lq, small, r))

-- ---- what is done for a pair, and at the end of a row

module _ {test : Test} {outs : List ℕ} {p q : ℕ} {square : List ℕ} {fresh : List StateSet} where
  -- the test tells the pair apart
  pub pair_apart : passing test outs p q ≡ true → length outs ≤ state_limit → HasRows (length outs) square → p < length outs → q < length outs
      → {fresh' : List StateSet} {with : ℕ → Bool}
      → ((x : ℕ) → with x ≡ (set_at fresh p x || (eqb x q && ltb q state_limit))) → Put fresh p with fresh'
      → PairBegun test outs p q square fresh (set square (place p q) 0) fresh'
  pair_apart says small size lp lq is P = record {
    entered = record {
      size = one.size;
      here = λ x lx. one.here x lx ∙ rw (says, and-true (eqb x q));
      elsewhere = one.elsewhere;
    };
    noted = record { size = P.size; here = λ x. P.here x ∙ is x ∙ rw (says, lt-ltb q state_limit (omega (arith, lq, small))); elsewhere = P.elsewhere };
  }
    where
      one : Entered (length outs) square p (λ x. eqb x q) 0 (set square (place p q) 0)
      one = entered_one (length outs) square p q 0 small size lp (omega (arith, lq, small))

  -- it does not
  pub pair_alike : passing test outs p q ≡ false → PairBegun test outs p q square fresh square fresh
  pair_alike says = record {
    entered = record { size = refl; here = λ x lx. rw (says, and-false (eqb x q)); elsewhere = λ x y lx ly ne. refl };
    noted = record { size = refl; here = λ x. rw (says, and-false (eqb x q)) (sym (or-false (set_at fresh p x))); elsewhere = λ j x ne. refl };
  }

module _ (n : ℕ) {p : ℕ} (fresh : List StateSet) {alike alike' : List StateSet} {apart left : ℕ → Bool} (lp : p < state_limit)
    (is : (q : ℕ) → apart q ≡ set_at fresh p q)
    (il : (q : ℕ) → left q ≡ ((ltb q n && not (apart q)) && not (eqb q p && ltb p state_limit))) (P : Put alike p left alike') where
  others : Put alike p (λ q. (ltb q n && not (set_at fresh p q)) && not (eqb q p)) alike'
  others = record {
    size = P.size;
    here = λ q. P.here q ∙ il q ∙ rw (is q, lt-ltb p state_limit lp, and-true (eqb q p));
    elsewhere = P.elsewhere;
  }

  -- no state is fresh
  pub row_quiet : {rows : ℕ → Bool} → ((q : ℕ) → q < state_limit → apart q ≡ false) → RowDone n p fresh alike rows alike' rows
  row_quiet none = record { others = others; same = λ x ne. refl; some = inl; all = λ q lq t. absurd (clash (is q ∙ t) (none q lq)) }

  -- some state is
  pub row_fresh : {rows : ℕ → Bool} → (q : ℕ) × (q < state_limit) × (apart q ≡ true)
      → {rows' : ℕ → Bool} → ((x : ℕ) → rows' x ≡ (rows x || (eqb x p && ltb p state_limit))) → RowDone n p fresh alike rows alike' rows'
  row_fresh {rows} found R = record {
    others = others;
    same = λ x ne. R x ∙ rw (ne_eqb x p ne) (or-false (rows x));
    some = λ t. inr (found.0, sym (is found.0) ∙ found.2);
    all = λ q lq t. R p ∙ rw (eq-eqb p p refl, lt-ltb p state_limit lp) (or_right (rows p) true refl);
  }

-- ---- one pair more, one row more

module _ {test : Test} {outs : List ℕ} (small : length outs ≤ state_limit) {p k : ℕ} (lp : p < length outs) {square : List ℕ}
    {alike fresh : List StateSet} {rows : ℕ → Bool}
    (b : Begun test outs p k square alike fresh rows) where
  abbrev n : ℕ
  n = length outs

  -- the pair p q, which is pair k of the pass
  module _ {q : ℕ} (lq : q < n) (is : p * n + q ≡ k) {square' : List ℕ} {fresh' : List StateSet} (P : PairBegun test outs p q square fresh square' fresh') where
    -- of the entries and the fresh states, only those of the pair change
    entry_kept : (x y : ℕ) → x < n → y < n → (x ≡ p → y ≡ q → ⊥) → entry square' x y ≡ entry square x y
    entry_kept x y lx ly ne =
        ⊎_elim
        (λ (e : x ≡ p). rw e (P.entered.here y ly ∙ rw (ne_eqb y q (ne e))))
        (P.entered.elsewhere x y lx ly)
        (same_or_not x p)

    fresh_kept : (x y : ℕ) → (x ≡ p → y ≡ q → ⊥) → set_at fresh' x y ≡ set_at fresh x y
    fresh_kept x y ne =
        ⊎_elim
        (λ (e : x ≡ p). rw e (P.noted.here y ∙ rw (ne_eqb y q (ne e)) (or-false (set_at fresh p y))))
        (P.noted.elsewhere x y)
        (same_or_not x p)

    entries_after : (x y : ℕ) → x < n → y < n → entry square' x y ≡ cond (ltb (x * n + y) (k + 1) && passing test outs x y) 0 never
    entries_after x y lx ly =
        ⊎_elim
        (λ (e : x * n + y ≡ k).
        let ex = row_is x p ly lq (e ∙ sym is) in
        let ey = column_is x p ly lq (e ∙ sym is) in
        rw (ex, ey) (P.entered.here q (omega (arith, lq, small))
        ∙ rw (b.entries p q lp lq, is, eq-eqb q q refl, lt-ltb k (k + 1) (omega arith), le-ltb k k (le_refl k))))
        (λ (ne : x * n + y ≡ k → ⊥). entry_kept x y lx ly (λ ex ey. ne (rw (ex, ey) is)) ∙ b.entries x y lx ly ∙ rw (other ne))
        (same_or_not (x * n + y) k)
      where
        other : {i : ℕ} → (i ≡ k → ⊥) → ltb i k ≡ ltb i (k + 1)
        other {i} ne =
            ⊎_elim
            (λ (l : i < k). rw (lt-ltb i k l, lt-ltb i (k + 1) (omega arith)))
            (λ l. ⊎_elim
            (λ (m : k < i). rw (le-ltb i k l, le-ltb i (k + 1) (omega arith)))
            (λ m. absurd (ne (omega arith)))
            (lt_or_le k i))
            (lt_or_le i k)

    noted_after : (x y : ℕ) → x < n → set_at fresh' x y ≡ (ltb y n && eqb (entry square' x y) 0)
    noted_after x y lx =
        ⊎_elim
        (λ (e : x ≡ p). ⊎_elim
        (λ (ey : y ≡ q). rw (e, ey) (P.noted.here q
        ∙ rw (b.noted p q lp, lt-ltb q n lq, b.entries p q lp lq, is, le-ltb k k (le_refl k), eq-eqb q q refl)
        (sym (zero_where (passing test outs p q)) ∙ rw (entries_after p q lp lq, is, lt-ltb k (k + 1) (omega arith)))))
        (λ (ne : y ≡ q → ⊥). kept_there (λ _. ne))
        (same_or_not y q))
        (λ (ne : x ≡ p → ⊥). kept_there (λ e. absurd (ne e)))
        (same_or_not x p)
      where
        kept_there : (x ≡ p → y ≡ q → ⊥) → set_at fresh' x y ≡ (ltb y n && eqb (entry square' x y) 0)
        kept_there ne =
            fresh_kept x y ne ∙ b.noted x y lx ∙ ⊎_elim
            (λ (ly : y < n). rw (entry_kept x y lx ly ne))
            (λ out. rw (le-ltb y n out))
            (lt_or_le y n)

    pub begun_pair : Begun test outs p (k + 1) square' alike fresh' rows
    begun_pair = record {
      kept = record {
        size = rw P.entered.size b.kept.size;
        alike_size = b.kept.alike_size;
        fresh_size = rw P.noted.size b.kept.fresh_size;
        alike_is = λ x y l. b.kept.alike_is x y l ∙ ⊎_elim
            (λ (ly : y < n). rw (entry_kept x y (omega (arith, l, lp)) ly (λ e. absurd (omega (arith, e, l)))))
            (λ out. rw (le-ltb y n out))
            (lt_or_le y n);
        fresh_is = λ x y l. noted_after x y (omega (arith, l, lp));
        rows_some = λ x t.
            let s = b.kept.rows_some x t in
            let l = s.0 in
            (l, (s.1.0, fresh_kept x s.1.0 (λ e. absurd (omega (arith, e, l))) ∙ s.1.1));
        rows_all = λ x y l t. b.kept.rows_all x y l (sym (fresh_kept x y (λ e. absurd (omega (arith, e, l)))) ∙ t);
      };
      entries = entries_after;
      noted = noted_after;
    }

  -- the end of row p
  module _ {alike' : List StateSet} {rows' : ℕ → Bool} (R : RowDone n p fresh alike rows alike' rows') where
    below : {x : ℕ} → x < p + 1 → (x ≡ p → ⊥) → x < p
    below {x} l ne = ⊎_elim (λ (h : x < p). h) (λ h. absurd (ne (omega (arith, h, l)))) (lt_or_le x p)

    alike_here : (q : ℕ) → set_at alike' p q ≡ ((ltb q n && not (eqb q p)) && eqb (entry square p q) never)
    alike_here q =
        R.others.here q ∙ rw (b.noted p q lp)
        (⊎_elim
        (λ (lq : q < n). rw (lt-ltb q n lq, b.entries p q lp lq) (go (ltb (p * n + q) k && passing test outs p q) (eqb q p)))
        (λ out. rw (le-ltb q n out))
        (lt_or_le q n))
      where
        go : (c d : Bool) → (not (eqb (cond c 0 never) 0) && not d) ≡ (not d && eqb (cond c 0 never) never)
        go true true = refl
        go true false = refl
        go false true = refl
        go false false = refl

    some_after : (x : ℕ) → rows' x ≡ true → (x < p + 1) × ((q : ℕ) × (set_at fresh x q ≡ true))
    some_after x t =
        ⊎_elim
        (λ (e : x ≡ p). rw e ((
          omega arith,
          ⊎_elim
              (λ h. absurd (let l = (b.kept.rows_some p h).0 in omega (arith, l)))
              (λ found. found)
              (R.some (rw e at t)),
        )))
        (λ ne. (let s = b.kept.rows_some x (sym (R.same x ne) ∙ t) in let l = s.0 in (omega (arith, l), s.1)))
        (same_or_not x p)

    all_after : (x q : ℕ) → x < p + 1 → set_at fresh x q ≡ true → rows' x ≡ true
    all_after x q l t =
        ⊎_elim
        (λ (e : x ≡ p).
        let h = rw e at t in
        let lq = ltb-true q n (and_left (ltb q n) (eqb (entry square p q) 0) (sym (b.noted p q lp) ∙ h)) in
        rw e (R.all q (omega (arith, lq, small)) h))
        (λ ne. R.same x ne ∙ b.kept.rows_all x q (below l ne) t)
        (same_or_not x p)

    pub begun_row : Begun test outs (p + 1) k square alike' fresh rows'
    begun_row = record {
      kept = record {
        size = b.kept.size;
        alike_size = rw R.others.size b.kept.alike_size;
        fresh_size = b.kept.fresh_size;
        alike_is = λ x q l. ⊎_elim
            (λ (e : x ≡ p). rw e (alike_here q))
            (λ ne. R.others.elsewhere x q ne ∙ b.kept.alike_is x q (below l ne))
            (same_or_not x p);
        fresh_is = λ x q l. b.noted x q (omega (arith, l, lp));
        rows_some = some_after;
        rows_all = all_after;
      };
      entries = b.entries;
      noted = b.noted;
    }

-- ---- the pass

-- a pass that is at a pair, and has done the pairs and the rows before it
pub record Walking (test : Test) (outs : List ℕ) (at : Position) (square : List ℕ) (alike fresh : List StateSet) (rows : ℕ → Bool) : Type 0 where
  pub most : at.number ≤ length outs * length outs
  pub on : On (length outs) at
  pub begun : Begun test outs at.row at.number square alike fresh rows

pub walking_none : {test : Test} {outs square : List ℕ} {alike fresh : List StateSet} {rows : ℕ → Bool} {at : Position}
    → Begun test outs 0 0 square alike fresh rows
    → at ≡ start → Walking test outs at square alike fresh rows
walking_none b e = rw e (record { most = zero-le; on = on_start; begun = b })

module _ {test : Test} {outs : List ℕ} {at : Position} {square : List ℕ} {alike fresh : List StateSet} {rows : ℕ → Bool}
    (W : Walking test outs at square alike fresh rows) where
  pub walking_over : length outs * length outs ≤ at.number → Begun test outs (length outs) (length outs * length outs) square alike fresh rows
  walking_over l =
      let m = W.most in
      let e : at.number ≡ length outs * length outs = omega (arith, l, m) in
      rw (on_over W.on e, e) at W.begun

  module _ (l : at.number < length outs * length outs) {after : Position} (f : after ≡ pair (length outs) (at.number + 1)) where
    by_step : after ≡ next (length outs) at
    by_step = f ∙ sym (on_next W.on)

    -- fewer pairs are left after a step
    pub walking_less : length outs * length outs - after.number < length outs * length outs - at.number
    walking_less = rw by_step (omega (arith, l))

    module _ (small : length outs ≤ state_limit) {square' : List ℕ} {fresh' : List StateSet}
        (P : PairBegun test outs at.row at.column square fresh square' fresh') where
      more : Begun test outs at.row (at.number + 1) square' alike fresh' rows
      more = begun_pair small (on_row W.on l) W.begun (on_column W.on l) (on_numbered W.on l) P

      -- along the row
      pub walking_along : (at.column + 1 ≡ length outs → ⊥) → Walking test outs after square' alike fresh' rows
      walking_along ne = rw by_step (record {
        most = omega (arith, l);
        on = record { is = on_next W.on };
        begun = rw (ne_eqb (at.column + 1) (length outs) ne) more;
      })

      -- to the next row
      pub walking_down : at.column + 1 ≡ length outs → {alike' : List StateSet} {rows' : ℕ → Bool} → RowDone (length outs) at.row fresh' alike rows alike' rows'
          → Walking test outs after square' alike' fresh' rows'
      walking_down e R = rw by_step (record {
        most = omega (arith, l);
        on = record { is = on_next W.on };
        begun = rw (eq-eqb (at.column + 1) (length outs) e) (begun_row small (on_row W.on l) more R);
      })
