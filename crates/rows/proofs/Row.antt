-- One row with one symbol: which pairs it adds to those at distance r + 1.
use mathlib.Core.Path.{◌≡◌, refl, sym, ◌∙◌, subst}
use mathlib.Core.Bool.{Bool, true, false, cond, not, ◌&&◌, ◌||◌, and-true, or-false}
use mathlib.Core.List.{List}
use mathlib.Core.Logic.{◌⊎◌, inl, inr, ⊎_elim}
use Prim.Native.Nat.{ℕ, zero, suc, ◌+◌, ◌/◌, ◌≤◌, ◌<◌}
use native.Mathlib.Nat.{le_refl}
use native.Mathlib.Omega.{arith}
use lib.Dec.{eqb, ltb}
use borrow.Author.Tests.{eq-eqb, ne_eqb, eqb-true, eqb-false, lt-leb, lt-ltb, le-ltb, ltb-true, not-true}
use Rattle.theory.specs.Below.{any}
use Rattle.theory.specs.Automaton.{Automaton, Closed}
use Rattle.theory.specs.Monitor.{state_limit}
use Rattle.theory.specs.Pairs.{told}
use Rattle.theory.proofs.Below.{clash, not_clash, both_ways, lt_or_le, or_cases, or_left, or_right, and_left, and_right, and_both, any_find}
use Rattle.theory.proofs.Pairs.{onward}
use Rattle.state_set.specs.declared.StateSet.{StateSet}
use Rattle.state_set.specs.Member.{is_part, set_at, Put}
use Rattle.square.specs.Square.{never, entry}
use Rattle.square.proofs.Stage.{told_by}
use Rattle.rows.specs.Sets.{Preceding, leading, Into, Entered, Kept, Retired}
use Rattle.rows.specs.Midway.{Ground, Front, Midway, GoesAt, row_done}

-- ---- pairs told apart within a number of symbols

module _ (g : Automaton) (ends : ℕ → ℕ → Bool) where
  -- no state is told apart from itself
  told_self : Closed g → ((p : ℕ) → p < g.states → ends p p ≡ false) → (r p : ℕ) → p < g.states → told g ends r p p ≡ false
  unfolding told
  told_self c self zero p lp = self p lp
  told_self c self (suc r) p lp =
      not_clash (λ t. ⊎_elim
      (λ h. clash h (told_self c self r p lp))
      (λ h. (let b = any_find g.symbols (onward g ends r p p) h in clash b.2 (told_self c self r (g.next p b.0) (c.next_in p b.0 lp b.1))))
      (or_cases (told g ends r p p) (any g.symbols (onward g ends r p p)) t))

-- ---- sets in arrays

put_same : {before after : List StateSet} {p : ℕ} {f : ℕ → Bool} → Put before p f after → (x q : ℕ) → (x ≡ p → f q ≡ set_at before p q)
    → set_at after x q ≡ set_at before x q
put_same {before} {after} {p} {f} P x q same = go (eqb x p) refl
  where
    go : (b : Bool) → eqb x p ≡ b → set_at after x q ≡ set_at before x q
    go true h = (let e = eqb-true x p h in rw e (P.here q ∙ same e))
    go false h = P.elsewhere x q (eqb-false x p h)

-- the same rows
pub kept_rows : {n d upto : ℕ} {square : List ℕ} {alike fresh : List StateSet} {rows rows' : ℕ → Bool} → Kept n d upto square alike fresh rows
    → ((p : ℕ) → rows' p ≡ rows p) → Kept n d upto square alike fresh rows'
kept_rows k e = record {
  size = k.size;
  alike_size = k.alike_size;
  fresh_size = k.fresh_size;
  alike_is = k.alike_is;
  fresh_is = k.fresh_is;
  rows_some = λ p t. k.rows_some p (sym (e p) ∙ t);
  rows_all = λ p q l t. e p ∙ k.rows_all p q l t;
}

-- what is not told apart from p, and is another state, is among the alike
pub told_alike : {g : Automaton} {ends : ℕ → ℕ → Bool} {predecessors : List StateSet} → Ground g ends predecessors → (r p a q : ℕ) {d : ℕ}
    {square : List ℕ} {alike next : List StateSet}
    {rows : ℕ → Bool} → Kept g.states d g.states square alike next rows → p < g.states → a < g.symbols → q < g.states
    → told g ends r (g.next p a) (g.next q a) ≡ true → entry square p q ≡ never → set_at alike p q ≡ true
told_alike {g} {ends} G r p a q {square = square} K lp la lq t e =
    let other : (q ≡ p) → ⊥ = λ h. clash (subst (λ (z : ℕ). told g ends r (g.next p a) (g.next z a) ≡ true) h t)
    (told_self g ends G.closed G.self r (g.next p a) (G.closed.next_in p a lp la)) in
    K.alike_is p q lp ∙ rw (lt-ltb q g.states lq, ne_eqb q p other, eq-eqb (entry square p q) never e)

-- what a row that is not active for a part of the columns has there is done
pub retired_done : {g : Automaton} {ends : ℕ → ℕ → Bool} {predecessors : List StateSet} → Ground g ends predecessors → {r : ℕ} {done : ℕ → ℕ → ℕ → Bool}
    {square : List ℕ} {alike next active : List StateSet} {rows : ℕ → Bool} → Midway g ends r done square alike next active rows
    → Midway g ends r (λ p q a. done p q a || not (set_at active (q / 64) p)) square alike next active rows
retired_done {g} {ends} G {r} {done} {square} {active = active} M = record {
  kept = M.kept;
  active_rows = M.active_rows;
  old = M.old;
  known = M.known;
  new = M.new;
  covered = λ p q a lp lq la d t.
      ⊎_elim
      (λ o. M.covered p q a lp lq la o t)
      (λ o. ⊎_elim
      (λ l. l)
      (λ e. absurd (clash (M.active_rows.at p q lp (told_alike G r p a q M.kept lp la lq t e)) (not-true (set_at active (q / 64) p) o)))
      (M.known p q lp lq))
      (or_cases (done p q a) (not (set_at active (q / 64) p)) d);
}

-- ---- one row with one symbol

module _ {g : Automaton} {ends : ℕ → ℕ → Bool} {predecessors : List StateSet} (G : Ground g ends predecessors) {r : ℕ} (fits : r + 1 < never)
    {p a : ℕ} (lp : p < g.states) (la : a < g.symbols) {front : ℕ → Bool} (F : Front g ends r (g.next p a) front)
    {done : ℕ → ℕ → ℕ → Bool} {square : List ℕ} {alike next active : List StateSet} {rows : ℕ → Bool}
    (M : Midway g ends r done square alike next active rows) where
  abbrev n : ℕ
  n = g.states

  -- symbol a leads from p and q to a pair told apart within r
  abbrev reached : ℕ → Type 0
  reached q = told g ends r (g.next p a) (g.next q a) ≡ true

  is_alike : (q : ℕ) → q < n → reached q → entry square p q ≡ never → set_at alike p q ≡ true
  is_alike q lq t e = told_alike G r p a q M.kept lp la lq t e

  alike_says : (q : ℕ) → set_at alike p q ≡ true → (q < n) × (entry square p q ≡ never)
  alike_says q t =
      let x = sym (M.kept.alike_is p q lp) ∙ t in
      let y = and_left (ltb q n && not (eqb q p)) (eqb (entry square p q) never) x in
      let z = and_right (ltb q n && not (eqb q p)) (eqb (entry square p q) never) x in
      (ltb-true q n (and_left (ltb q n) (not (eqb q p)) y), eqb-true (entry square p q) never z)

  module _ (part : ℕ → Bool) (square' : List ℕ) where
    -- what is done is done, and p with a as well
    done_also : ((x q : ℕ) → x < n → q < n → entry square x q ≤ suc r → entry square' x q ≤ suc r)
        → ((q : ℕ) → q < n → part q ≡ true → reached q → entry square' p q ≤ suc r)
        → (x q b : ℕ) → x < n → q < n → b < g.symbols → (done x q b || row_done part p a x q b) ≡ true
        → told g ends r (g.next x b) (g.next q b) ≡ true → entry square' x q ≤ suc r
    done_also keeps here x q b lx lq lb d t =
        ⊎_elim
        (λ o. keeps x q lx lq (M.covered x q b lx lq lb o t))
        (λ h.
        let i = and_right (part q) (eqb x p && eqb b a) h in
        let ex = eqb-true x p (and_left (eqb x p) (eqb b a) i) in
        let eb = eqb-true b a (and_right (eqb x p) (eqb b a) i) in
        rw ex (here q lq (and_left (part q) (eqb x p && eqb b a) h) (rw (← ex, ← eb) t)))
        (or_cases (done x q b) (row_done part p a x q b) d)

  -- nothing is added: no state alike to p is reached
  pub spread_nothing : (part : ℕ → Bool) → ((q : ℕ) → q < n → part q ≡ true → set_at alike p q ≡ true → reached q → ⊥)
      → Midway g ends r (λ x q b. done x q b || row_done part p a x q b) square alike next active rows
  spread_nothing part nothing = record {
    kept = M.kept;
    active_rows = M.active_rows;
    old = M.old;
    known = M.known;
    new = M.new;
    covered = done_also part square (λ x q _ _ l. l)
        (λ q lq c t. ⊎_elim (λ l. l) (λ e. absurd (nothing q lq c (is_alike q lq t e) t)) (M.known p q lp lq));
  }

  module _ {part into new : ℕ → Bool} (I : Into g a part front into) (N : (q : ℕ) → new q ≡ (set_at alike p q && into q)) where
    into_reached : (q : ℕ) → q < n → into q ≡ true → reached q
    into_reached q lq t =
        (F.sound (g.next q a) (and_right (ltb q n) (front (g.next q a)) (and_right (part q) (leading g a front q) (sym (I.at q) ∙ t)))).1

    reached_into : (q : ℕ) → q < n → part q ≡ true → reached q → (into q ≡ true) ⊎ (told g ends r p q ≡ true)
    reached_into q lq c t =
        ⊎_elim
        (λ f. inl (I.at q ∙ and_both (part q) (leading g a front q) c (and_both (ltb q n) (front (g.next q a)) (lt-ltb q n lq) f)))
        (λ s. inr (let e = s.1 in rw e (told_by g ends s.0 p q a la s.2)))
        (F.all (g.next q a) (G.closed.next_in q a lq la) t)

    -- a reached state alike to p is new
    reached_new : (q : ℕ) → q < n → part q ≡ true → set_at alike p q ≡ true → reached q → new q ≡ true
    reached_new q lq c h t =
        ⊎_elim
        (λ i. N q ∙ and_both (set_at alike p q) (into q) h i)
        (λ o. absurd (let e = (alike_says q h).1 in clash o (M.old p q r lp lq (le_refl r) ∙ lt-leb (entry square p q) r (omega (arith, e, fits)))))
        (reached_into q lq c t)

    pub spread_none : ((q : ℕ) → new q ≡ false) → Midway g ends r (λ x q b. done x q b || row_done part p a x q b) square alike next active rows
    spread_none none = spread_nothing part (λ q lq c h t. clash (reached_new q lq c h t) (none q))

    new_says : (q : ℕ) → new q ≡ true → (q < n) × (entry square p q ≡ never) × (told g ends (suc r) p q ≡ true)
    new_says q t =
        let x = sym (N q) ∙ t in
        let h = alike_says q (and_left (set_at alike p q) (into q) x) in
        (h.0, h.1, told_by g ends r p q a la (into_reached q h.0 (and_right (set_at alike p q) (into q) x)))

    module _ {square' : List ℕ} {alike' next' : List StateSet} {rows' : ℕ → Bool} (E : Entered n square p new (r + 1) square')
        (A : Put alike p (λ q. set_at alike p q && not (new q)) alike') (X : Put next p (λ q. set_at next p q || new q) next')
        (R : (q : ℕ) → rows' q ≡ (rows q || (eqb q p && ltb p state_limit))) (some : (q : ℕ) × (new q ≡ true)) where
      small_p : p < state_limit
      small_p = (let m = G.small in omega (arith, lp, m))

      -- an entry is new, or as it was
      after : (x q : ℕ) → x < n → q < n
          → ((x ≡ p) × (new q ≡ true) × (entry square' x q ≡ suc r)) ⊎ ((x ≡ p → new q ≡ false) × (entry square' x q ≡ entry square x q))
      after x q lx lq = at_row (eqb x p) refl
        where
          at_new : x ≡ p → (b : Bool) → new q ≡ b
              → ((x ≡ p) × (new q ≡ true) × (entry square' x q ≡ suc r)) ⊎ ((x ≡ p → new q ≡ false) × (entry square' x q ≡ entry square x q))
          at_new e true h = inl (e, h, rw e (E.here q lq ∙ rw h (let z : r + 1 ≡ suc r = omega arith in z)))
          at_new e false h = inr (λ _. h, rw e (E.here q lq ∙ rw h))

          at_row : (b : Bool) → eqb x p ≡ b
              → ((x ≡ p) × (new q ≡ true) × (entry square' x q ≡ suc r)) ⊎ ((x ≡ p → new q ≡ false) × (entry square' x q ≡ entry square x q))
          at_row true h = at_new (eqb-true x p h) (new q) refl
          at_row false h =
              let ne = eqb-false x p h in
              inr (λ e. absurd (ne e), E.elsewhere x q lx lq ne)

      -- ---- the sets

      new_out : (q : ℕ) → n ≤ q → new q ≡ false
      new_out q l = not_clash (λ t. (let z = (new_says q t).0 in omega (arith, z, l)))

      alike_same : (x q : ℕ) → (x ≡ p → new q ≡ false) → set_at alike' x q ≡ set_at alike x q
      alike_same x q keeps = put_same A x q (λ e. rw (keeps e) (and-true (set_at alike p q)))

      next_same : (x q : ℕ) → (x ≡ p → new q ≡ false) → set_at next' x q ≡ set_at next x q
      next_same x q keeps = put_same X x q (λ e. rw (keeps e) (or-false (set_at next p q)))

      alike_after : (x q : ℕ) → x < n → set_at alike' x q ≡ ((ltb q n && not (eqb q x)) && eqb (entry square' x q) never)
      alike_after x q lx =
          ⊎_elim
          (λ lq. ⊎_elim
          (λ h. both_ways
          (λ t.
          let e = h.0 in
          let y = and_right (set_at alike p q) (not (new q)) (sym (A.here q) ∙ rw e at t) in
          absurd (clash h.1 (not-true (new q) y)))
          (λ t.
          let y = eqb-true (entry square' x q) never (and_right (ltb q n && not (eqb q x)) (eqb (entry square' x q) never) t) in
          let z = h.2 in
          absurd (omega (arith, y, z, fits))))
          (λ h. (let z = h.1 in alike_same x q h.0 ∙ M.kept.alike_is x q lx ∙ rw z))
          (after x q lx lq))
          (λ l. alike_same x q (λ _. new_out q l) ∙ M.kept.alike_is x q lx ∙ rw (le-ltb q n l))
          (lt_or_le q n)

      next_after : (x q : ℕ) → x < n → set_at next' x q ≡ (ltb q n && eqb (entry square' x q) (suc r))
      next_after x q lx =
          ⊎_elim
          (λ lq. ⊎_elim
          (λ h.
          let e = h.0 in
          let z = h.2 in
          let yes : set_at next' x q ≡ true = rw e (X.here q ∙ or_right (set_at next p q) (new q) h.1) in
          yes ∙ sym (and_both (ltb q n) (eqb (entry square' x q) (suc r)) (lt-ltb q n lq) (eq-eqb (entry square' x q) (suc r) z)))
          (λ h. (let z = h.1 in next_same x q h.0 ∙ M.kept.fresh_is x q lx ∙ rw z))
          (after x q lx lq))
          (λ l. next_same x q (λ _. new_out q l) ∙ M.kept.fresh_is x q lx ∙ rw (le-ltb q n l))
          (lt_or_le q n)

      next_keeps : (x q : ℕ) → set_at next x q ≡ true → set_at next' x q ≡ true
      next_keeps x q t = go (eqb x p) refl
        where
          go : (b : Bool) → eqb x p ≡ b → set_at next' x q ≡ true
          go true h = (let e = eqb-true x p h in rw e (X.here q ∙ or_left (set_at next p q) (new q) (rw e at t)))
          go false h = X.elsewhere x q (eqb-false x p h) ∙ t

      kept_after : Kept n (suc r) n square' alike' next' rows'
      kept_after = record {
        size = rw E.size M.kept.size;
        alike_size = rw A.size M.kept.alike_size;
        fresh_size = rw X.size M.kept.fresh_size;
        alike_is = alike_after;
        fresh_is = next_after;
        rows_some = λ x t. ⊎_elim
            (λ o. (let s = M.kept.rows_some x o in (s.0, (s.1.0, next_keeps x s.1.0 s.1.1))))
            (λ h.
            let e = eqb-true x p (and_left (eqb x p) (ltb p state_limit) h) in
            (rw e lp, (some.0, rw e (X.here some.0 ∙ or_right (set_at next p some.0) (new some.0) some.1))))
            (or_cases (rows x) (eqb x p && ltb p state_limit) (sym (R x) ∙ t));
        rows_all = λ x q lx t. go x q lx t (eqb x p) refl;
      }
        where
          go : (x q : ℕ) → x < n → set_at next' x q ≡ true → (b : Bool) → eqb x p ≡ b → rows' x ≡ true
          go x q lx t true h =
              R x ∙ or_right (rows x) (eqb x p && ltb p state_limit) (and_both (eqb x p) (ltb p state_limit) h (lt-ltb p state_limit small_p))
          go x q lx t false h =
              R x ∙ or_left (rows x) (eqb x p && ltb p state_limit) (M.kept.rows_all x q lx (sym (X.elsewhere x q (eqb-false x p h)) ∙ t))

      -- a state that is alike was so before
      alike_before : (x q : ℕ) → set_at alike' x q ≡ true → set_at alike x q ≡ true
      alike_before x q t = go (eqb x p) refl
        where
          go : (b : Bool) → eqb x p ≡ b → set_at alike x q ≡ true
          go true h = (let e = eqb-true x p h in rw e (and_left (set_at alike p q) (not (new q)) (sym (A.here q) ∙ rw e at t)))
          go false h = sym (A.elsewhere x q (eqb-false x p h)) ∙ t

      pub spread_new : {active' : List StateSet}
          → ((w x : ℕ) → set_at active w x ≡ true → (set_at active' w x ≡ true) ⊎ ((x ≡ p) × ((q : ℕ) → is_part w q ≡ true → set_at alike' p q ≡ false)))
          → Midway g ends r (λ x q b. done x q b || row_done part p a x q b) square' alike' next' active' rows'
      spread_new O = record {
        kept = kept_after;
        active_rows = record {
          at = λ x q lx t. ⊎_elim
              (λ o. o)
              (λ h. (let e = h.0 in absurd (clash (rw e at t) (h.1 q (eq-eqb (q / 64) (q / 64) refl)))))
              (O (q / 64) x (M.active_rows.at x q lx (alike_before x q t)));
        };
        old = λ x q s lx lq ls. ⊎_elim
            (λ h.
            let e : entry square x q ≡ never = (let k = h.0 in rw k (new_says q h.1).1) in
            let z = h.2 in
            M.old x q s lx lq ls ∙ lt-leb (entry square x q) s (omega (arith, e, ls, fits)) ∙ sym (lt-leb (entry square' x q) s (omega (arith, z, ls))))
            (λ h. (let z = h.1 in rw z (M.old x q s lx lq ls)))
            (after x q lx lq);
        known = λ x q lx lq. ⊎_elim (λ h. inl (let z = h.2 in omega (arith, z))) (λ h. (let z = h.1 in rw z (M.known x q lx lq))) (after x q lx lq);
        new = λ x q lx lq e. ⊎_elim (λ h. rw h.0 (new_says q h.1).2) (λ h. M.new x q lx lq (sym h.1 ∙ e)) (after x q lx lq);
        covered = done_also part square' keeps here;
      }
        where
          keeps : (x q : ℕ) → x < n → q < n → entry square x q ≤ suc r → entry square' x q ≤ suc r
          keeps x q lx lq l = ⊎_elim (λ h. (let z = h.2 in omega (arith, z))) (λ h. (let z = h.1 in omega (arith, z, l))) (after x q lx lq)

          here : (q : ℕ) → q < n → part q ≡ true → reached q → entry square' p q ≤ suc r
          here q lq c t =
              ⊎_elim
              (λ l. keeps p q lp lq l)
              (λ e. ⊎_elim
              (λ h. (let z = h.2 in omega (arith, z)))
              (λ h. absurd (clash (reached_new q lq c (is_alike q lq t e) t) (h.0 refl)))
              (after p q lp lq))
              (M.known p q lp lq)

-- ---- what `spread_row` does

-- a set stored at place p is any that has the same states
pub put_as : {before after : List StateSet} {p : ℕ} (f h : ℕ → Bool) → Put before p f after → ((q : ℕ) → f q ≡ h q) → Put before p h after
put_as f h P e = record { size = P.size; here = λ q. P.here q ∙ e q; elsewhere = P.elsewhere }

-- a set stored with another part, of which the states are known, is the set so changed
pub put_part : {before after : List StateSet} {p : ℕ} (w : ℕ) (f h : ℕ → Bool) {test : ℕ → Bool} → Put before p test after
    → ((q : ℕ) → test q ≡ cond (is_part w q) (f q) (set_at before p q)) → ((q : ℕ) → is_part w q ≡ true → f q ≡ h q) →
    ((q : ℕ) → is_part w q ≡ false → set_at before p q ≡ h q) → Put before p h after
put_part {before} {after} {p} w f h P is inside outside = record {
  size = P.size;
  here = λ q. P.here q ∙ is q ∙ go q (is_part w q) refl;
  elsewhere = P.elsewhere;
}
  where
    go : (q : ℕ) (b : Bool) → is_part w q ≡ b → cond b (f q) (set_at before p q) ≡ h q
    go q true e = inside q e
    go q false e = outside q e

-- of fewer states the entries became the same
entered_fewer : {n m : ℕ} {before : List ℕ} {p : ℕ} {test : ℕ → Bool} {d : ℕ} {after : List ℕ} → n ≤ m → Entered m before p test d after
    → Entered n before p test d after
entered_fewer l E = record {
  size = E.size;
  here = λ q lq. E.here q (omega (arith, lq, l));
  elsewhere = λ x q lx lq. E.elsewhere x q (omega (arith, lx, l)) (omega (arith, lq, l));
}

-- what is new, by a word of part w: the states alike to p that lead into the front, in the columns of that part and in no others
new_is : {g : Automaton} {a : ℕ} {part front into : ℕ → Bool} → Into g a part front into → (alike new here : ℕ → Bool)
    → ((q : ℕ) → here q ≡ (part q && alike q)) → ((q : ℕ) → new q ≡ (here q && into q)) → (q : ℕ) → new q ≡ (alike q && into q)
new_is {g} {a} {part} {front} I alike new here H N q = N q ∙ rw (H q, I.at q) (go (part q) (alike q) (leading g a front q))
  where
    go : (b x y : Bool) → ((b && x) && (b && y)) ≡ (x && (b && y))
    go true x y = refl
    go false true y = refl
    go false false y = refl

new_outside : (part alike new here into : ℕ → Bool) → ((q : ℕ) → here q ≡ (part q && alike q)) → ((q : ℕ) → new q ≡ (here q && into q))
    → (q : ℕ) → part q ≡ false → new q ≡ false
new_outside part alike new here into H N q e = N q ∙ rw (H q, e)

module _ (w : ℕ) {g : Automaton} (p a r : ℕ) (fits : r + 1 < never) (lp : p < g.states) (la : a < g.symbols) {front : ℕ → Bool}
    {sets : List StateSet} {square : List ℕ} {alike next active : List StateSet} {rows : ℕ → Bool} where
  module _ {into new here : ℕ → Bool} (I : Closed g → Preceding g (λ x b. ltb x g.states) sets → Into g a (is_part w) front into)
      (H : (q : ℕ) → here q ≡ (is_part w q && set_at alike p q)) (N : (q : ℕ) → new q ≡ (here q && into q)) where
    pub row_none : ((q : ℕ) → new q ≡ false)
        → GoesAt g r (g.next p a) front (row_done (is_part w) p a) sets square alike next active rows square alike next active rows
    row_none none = record {
      goes = λ ends done G F M. spread_none G fits lp la F M (I G.closed G.preceding)
          (new_is (I G.closed G.preceding) (set_at alike p) new here H N) none;
    }

    pub row_new : {square' : List ℕ} {alike' next' active' : List StateSet} {alike'' next'' left more old rows' : ℕ → Bool} {word : ℕ} → (q : ℕ) ×
        (new q ≡ true)
        → Entered state_limit square p new (r + 1) square'
        → Put alike p alike'' alike' → ((q : ℕ) → alike'' q ≡ cond (is_part w q) (left q) (set_at alike p q)) → ((q : ℕ) → left q ≡ (here q && not (new q)))
        → Put next p next'' next' → ((q : ℕ) → next'' q ≡ cond (is_part w q) (more q) (set_at next p q)) → ((q : ℕ) → more q ≡ (old q || new q)) →
        ((q : ℕ) → old q ≡ (is_part w q && set_at next p q))
        → Retired p w word active active' → (word ≡ 0 → (q : ℕ) → left q ≡ false)
        → ((q : ℕ) → rows' q ≡ (rows q || (eqb q p && ltb p state_limit)))
        → GoesAt g r (g.next p a) front (row_done (is_part w) p a) sets square alike next active rows square' alike' next' active' rows'
    row_new {left = left} {more} {word = word} some E A put_alike ea X put_next ex eo S none R = record {
      goes = λ ends done G F M.
          spread_new G fits lp la F M (I G.closed G.preceding) (new_is (I G.closed G.preceding) (set_at alike p) new here H N) (entered_fewer G.small E)
          (put_part w left (λ q. set_at alike p q && not (new q)) A put_alike (λ q e. ea q ∙ rw (H q, e))
          (λ q e. rw (new_outside (is_part w) (set_at alike p) new here into H N q e) (sym (and-true (set_at alike p q)))))
          (put_part w more (λ q. set_at next p q || new q) X put_next (λ q e. ex q ∙ rw (eo q, e))
          (λ q e. rw (new_outside (is_part w) (set_at alike p) new here into H N q e) (sym (or-false (set_at next p q)))))
          R some
          (λ u x t. ⊎_elim inl (λ h. inr (h.1, λ q e. A.here q ∙ put_alike q ∙ gone u q h.0 e h.2)) (S.stays u x t));
    }
      where
        gone : (u q : ℕ) → u ≡ w → is_part u q ≡ true → word ≡ 0 → cond (is_part w q) (left q) (set_at alike p q) ≡ false
        gone u q eu e ez = rw (rw eu at e) (none ez q)
