-- From the pairs at distance r to those at r + 1, and what holds when none is left.
use mathlib.Core.Path.{◌≡◌, refl, sym, ◌∙◌}
use mathlib.Core.Bool.{Bool, true, false, ◌&&◌}
use mathlib.Core.List.{List}
use mathlib.Core.Logic.{inl, inr, ⊎_elim}
use Prim.Native.Nat.{ℕ, zero, suc, ◌+◌, ◌*◌, ◌≤◌, ◌<◌}
use native.Mathlib.Nat.{le_refl}
use native.Mathlib.Omega.{arith}
use lib.Dec.{eqb, ltb}
use borrow.Author.Tests.{eq-eqb, eqb-true, le-leb, lt-leb, leb-true, lt-ltb, ltb-true}
use Rattle.theory.specs.Automaton.{Automaton, Closed}
use Rattle.theory.specs.Pairs.{told}
use Rattle.theory.proofs.Below.{clash, not_clash, lt_or_le, and_left, and_right, and_both}
use Rattle.theory.proofs.Pairs.{told_up, told_settled}
use Rattle.state_set.specs.declared.StateSet.{StateSet}
use Rattle.state_set.specs.Member.{set_at}
use Rattle.square.specs.Square.{never, entry, Squared}
use Rattle.square.proofs.Stage.{told_by, stage_told, stage_near, stage_next, stage_last}
use Rattle.rows.specs.Sets.{Empty, Active}
use Rattle.rows.specs.Midway.{Front, Midway}
use Rattle.rounds.specs.Layers.{Layer}

-- ---- a round

module _ {g : Automaton} {ends : ℕ → ℕ → Bool} {r : ℕ} {square : List ℕ} {alike fresh : List StateSet} {rows : ℕ → Bool}
    (L : Layer g ends r square alike fresh rows) where
  -- before the round no pair is at r + 1
  pub layer_begins : {next active : List StateSet} → r + 1 < never → Empty g.states next → Active g.states alike active
      → Midway g ends r (λ p q a. false) square alike next active (λ p. false)
  layer_begins {next} fits N O = record {
    active_rows = O;
    kept = record {
      size = L.kept.size;
      alike_size = L.kept.alike_size;
      fresh_size = N.size;
      alike_is = L.kept.alike_is;
      fresh_is = λ p q lp. N.none p q lp ∙ sym (not_clash (λ t.
          let lq = ltb-true q g.states (and_left (ltb q g.states) (eqb (entry square p q) (suc r)) t) in
          not_yet p q lp lq (eqb-true (entry square p q) (suc r) (and_right (ltb q g.states) (eqb (entry square p q) (suc r)) t))));
      rows_some = λ p t. absurd (clash t refl);
      rows_all = λ p q lp t. absurd (clash t (N.none p q lp));
    };
    old = λ p q s lp lq ls. (L.stage p q lp lq).agrees s ls;
    known = λ p q lp lq. ⊎_elim (λ l. inl (omega (arith, l))) (λ e. inr e) (L.stage p q lp lq).known;
    new = λ p q lp lq e. absurd (not_yet p q lp lq e);
    covered = λ p q a lp lq la d t. absurd (clash d refl);
  }
    where
      not_yet : (p q : ℕ) → p < g.states → q < g.states → entry square p q ≡ suc r → ⊥
      not_yet p q lp lq e = ⊎_elim (λ l. omega (arith, l, e)) (λ h. omega (arith, h, e, fits)) (L.stage p q lp lq).known

  -- the fresh states of row x are at distance r from x
  pub layer_front : (x : ℕ) → x < g.states → Front g ends r x (set_at fresh x)
  layer_front x lx = record {
    sound = λ y t.
        let h = sym (L.kept.fresh_is x y lx) ∙ t in
        let ly = ltb-true y g.states (and_left (ltb y g.states) (eqb (entry square x y) r) h) in
        let e = eqb-true (entry square x y) r (and_right (ltb y g.states) (eqb (entry square x y) r) h) in
        (ly, stage_told (L.stage x y lx ly) (omega (arith, e)));
    all = λ y ly t. ⊎_elim
        (λ e. inl (L.kept.fresh_is x y lx
        ∙ and_both (ltb y g.states) (eqb (entry square x y) r) (lt-ltb y g.states ly) (eq-eqb (entry square x y) r e)))
        inr (stage_near (L.stage x y lx ly) t);
  }

  -- the round is over when each row with each symbol that leads to a row with a fresh pair is done
  pub layer_next : {done : ℕ → ℕ → ℕ → Bool} {square' : List ℕ} {alike' next active : List StateSet} {rows' : ℕ → Bool} → Closed g
      → Midway g ends r done square' alike' next active rows'
      → ((p q a : ℕ) → p < g.states → q < g.states → a < g.symbols → rows (g.next p a) ≡ true → done p q a ≡ true)
      → Layer g ends (suc r) square' alike' next rows'
  layer_next {done} {square'} {alike'} {next} {rows'} c M all = record {
    kept = M.kept;
    stage = λ p q lp lq. stage_next (λ s. M.old p q s lp lq) (M.known p q lp lq) (M.new p q lp lq) (λ a. by p q a lp lq);
  }
    where
      by : (p q a : ℕ) → p < g.states → q < g.states → a < g.symbols → told g ends r (g.next p a) (g.next q a) ≡ true → entry square' p q ≤ suc r
      by p q a lp lq la t =
          let lx = c.next_in p a lp la in
          ⊎_elim
          (λ f. M.covered p q a lp lq la (all p q a lp lq la (L.kept.rows_all (g.next p a) (g.next q a) lx f)) t)
          (λ s.
          let e = s.1 in
          let l = leb-true (entry square' p q) r (sym (M.old p q r lp lq (le_refl r)) ∙ rw e (told_by g ends s.0 p q a la s.2)) in
          omega (arith, l))
          ((layer_front (g.next p a) lx).all (g.next q a) (c.next_in q a lq la) t)

  -- ---- the last round

  -- a round with a fresh pair is no later than the n * n-th
  pub layer_early : Closed g → (p : ℕ) → rows p ≡ true → r ≤ g.states * g.states
  layer_early c p t = go r refl
    where
      some : (p < g.states) × ((q : ℕ) × (set_at fresh p q ≡ true))
      some = L.kept.rows_some p t

      q : ℕ
      q = some.1.0

      is : (ltb q g.states && eqb (entry square p q) r) ≡ true
      is = sym (L.kept.fresh_is p q some.0) ∙ some.1.1

      lq : q < g.states
      lq = ltb-true q g.states (and_left (ltb q g.states) (eqb (entry square p q) r) is)

      at : entry square p q ≡ r
      at = eqb-true (entry square p q) r (and_right (ltb q g.states) (eqb (entry square p q) r) is)

      go : (z : ℕ) → r ≡ z → r ≤ g.states * g.states
      go zero e = omega (arith, e)
      go (suc s) e =
          let st = L.stage p q some.0 lq in
          let before : told g ends s p q ≡ false = st.agrees s (omega (arith, e)) ∙ lt-leb (entry square p q) s (omega (arith, at, e)) in
          let now : told g ends r p q ≡ true = st.agrees r (le_refl r) ∙ le-leb (entry square p q) r (omega (arith, at)) in
          ⊎_elim
          (λ (h : s < g.states * g.states). omega (arith, h, e))
          (λ h. absurd (clash (told_up g ends (g.states * g.states) s p q h (told_settled g ends c r p q some.0 lq now)) before))
          (lt_or_le s (g.states * g.states))

  -- where no pair is fresh, the square is finished
  pub layer_last : Closed g → ((p : ℕ) → p < g.states → rows p ≡ false) → r < never → Squared g ends square
  layer_last c none fits = stage_last square L.stage c at fits L.kept.size
    where
      at : (p q : ℕ) → p < g.states → q < g.states → entry square p q ≡ r → ⊥
      at p q lp lq e =
          clash (L.kept.rows_all p q lp (L.kept.fresh_is p q lp
          ∙ and_both (ltb q g.states) (eqb (entry square p q) r) (lt-ltb q g.states lq) (eq-eqb (entry square p q) r e))) (none p lp)
