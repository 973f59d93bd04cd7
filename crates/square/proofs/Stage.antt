-- From the pairs told apart within r to those within r + 1, and what holds when no pair is at r.
use mathlib.Core.Path.{◌≡◌, refl, sym, ◌∙◌, subst}
use mathlib.Core.Bool.{Bool, true, ◌||◌}
use mathlib.Core.List.{List}
use mathlib.Core.Logic.{◌⊎◌, inl, inr, ⊎_elim}
use Prim.Native.Nat.{ℕ, zero, suc, ◌≤◌, ◌<◌}
use native.Mathlib.Nat.{le_refl}
use native.Mathlib.Omega.{arith}
use lib.Dec.{leb}
use lib.ListN.{length}
use borrow.Author.Tests.{le-leb, leb-true}
use Rattle.theory.specs.Below.{any}
use Rattle.theory.specs.Automaton.{Automaton, Closed}
use Rattle.theory.specs.Extent.{Shortest}
use Rattle.theory.specs.Pairs.{Tells, told}
use Rattle.theory.proofs.Below.{both_ways, lt_or_le, same_or_not, or_cases, or_right, any_at, any_find}
use Rattle.theory.proofs.Pairs.{onward, told_sound, told_complete, told_more, still_ever}
use Rattle.square.specs.Square.{never, HasRows, entry, Noted, Squared, Stage}

module _ (g : Automaton) (ends : ℕ → ℕ → Bool) where
  told_step : (r p q : ℕ) → told g ends (suc r) p q ≡ (told g ends r p q || any g.symbols (onward g ends r p q))
  unfolding told
  told_step r p q = refl

  pub told_by : (r p q a : ℕ) → a < g.symbols → told g ends r (g.next p a) (g.next q a) ≡ true → told g ends (suc r) p q ≡ true
  told_by r p q a la t =
      told_step r p q
      ∙ or_right (told g ends r p q) (any g.symbols (onward g ends r p q)) (any_at g.symbols (onward g ends r p q) a la t)

  -- told apart within r already, or by a symbol that leads to a pair that is
  pub told_or_by : (r p q : ℕ) → told g ends (suc r) p q ≡ true
      → (told g ends r p q ≡ true) ⊎ ((a : ℕ) × (a < g.symbols) × (told g ends r (g.next p a) (g.next q a) ≡ true))
  told_or_by r p q t =
      ⊎_elim inl (λ h. inr (any_find g.symbols (onward g ends r p q) h))
      (or_cases (told g ends r p q) (any g.symbols (onward g ends r p q)) (sym (told_step r p q) ∙ t))

module _ {g : Automaton} {ends : ℕ → ℕ → Bool} {r : ℕ} where
  module _ {p q e : ℕ} where
    -- a pair told apart within r has an entry of at most r
    pub stage_entry : Stage g ends r p q e → told g ends r p q ≡ true → e ≤ r
    stage_entry S t = leb-true e r (sym (S.agrees r (le_refl r)) ∙ t)

    -- and the other way round
    pub stage_told : Stage g ends r p q e → e ≤ r → told g ends r p q ≡ true
    stage_told S l = S.agrees r (le_refl r) ∙ le-leb e r l

    -- it is at r, or was told apart before
    pub stage_near : Stage g ends r p q e → told g ends r p q ≡ true → (e ≡ r) ⊎ ((s : ℕ) × (r ≡ suc s) × (told g ends s p q ≡ true))
    stage_near S t = ⊎_elim inl (λ ne. inr (before r refl ne)) (same_or_not e r)
      where
        before : (z : ℕ) → r ≡ z → (e ≡ r → ⊥) → (s : ℕ) × (r ≡ suc s) × (told g ends s p q ≡ true)
        before zero ez ne = absurd (ne (omega (arith, stage_entry S t, ez)))
        before (suc s) ez ne =
            let l = stage_entry S t in
            let below : e ≤ s = ⊎_elim (λ k. omega (arith, k)) (λ k. absurd (ne (omega (arith, k, l, ez)))) (lt_or_le e (suc s)) in
            (s, ez, S.agrees s (omega (arith, ez)) ∙ le-leb e s below)

    -- the round after r: what is at most r is as it was, and what is at r + 1 are the other pairs told apart within r + 1
    pub stage_next : ((s : ℕ) → s ≤ r → told g ends s p q ≡ leb e s) → (e ≤ suc r) ⊎ (e ≡ never) → (e ≡ suc r → told g ends (suc r) p q ≡ true)
        → ((a : ℕ) → a < g.symbols → told g ends r (g.next p a) (g.next q a) ≡ true → e ≤ suc r) → Stage g ends (suc r) p q e
    stage_next old known new by = record {
      agrees = λ s l. ⊎_elim
          (λ (h : s < suc r). old s (omega (arith, h)))
          (λ h. (let z : suc r ≡ s = omega (arith, h, l) in subst (λ (x : ℕ). told g ends x p q ≡ leb e x) z now))
          (lt_or_le s (suc r));
      known = known;
    }
      where
        within : told g ends r p q ≡ true → e ≤ suc r
        within t = (let l = leb-true e r (sym (old r (le_refl r)) ∙ t) in omega (arith, l))

        now : told g ends (suc r) p q ≡ leb e (suc r)
        now =
            both_ways
            (λ t. le-leb e (suc r) (⊎_elim within (λ b. by b.0 b.1 b.2) (told_or_by g ends r p q t)))
            (λ t. (let l = leb-true e (suc r) t in ⊎_elim
            (λ (h : e < suc r). told_more g ends r p q (old r (le_refl r) ∙ le-leb e r (omega (arith, h))))
            (λ h. new (omega (arith, h, l)))
            (lt_or_le e (suc r))))

  -- where no pair is at r, no further symbol tells two states apart, and the square is finished
  module _ (square : List ℕ) (stage : (p q : ℕ) → p < g.states → q < g.states → Stage g ends r p q (entry square p q)) (c : Closed g)
      (none : (p q : ℕ) → p < g.states → q < g.states → entry square p q ≡ r → ⊥) (fits : r < never) where
    still : (p q : ℕ) → p < g.states → q < g.states → told g ends (suc r) p q ≡ told g ends r p q
    still p q lp lq =
        both_ways (λ t. ⊎_elim (λ o. o) (λ b. by b.0 b.1 b.2) (told_or_by g ends r p q t)) (told_more g ends r p q)
      where
        by : (a : ℕ) → a < g.symbols → told g ends r (g.next p a) (g.next q a) ≡ true → told g ends r p q ≡ true
        by a la t =
            let lx = c.next_in p a lp la in
            let ly = c.next_in q a lq la in
            ⊎_elim
            (λ e. absurd (none (g.next p a) (g.next q a) lx ly e))
            (λ s. (let e = s.1 in rw e (told_by g ends s.0 p q a la s.2)))
            (stage_near (stage (g.next p a) (g.next q a) lx ly) t)

    module _ (p q : ℕ) (lp : p < g.states) (lq : q < g.states) where
      entry_told : (v : List ℕ) → Tells g ends p q v → entry square p q ≤ r
      entry_told v t =
          stage_entry (stage p q lp lq)
          (still_ever g ends c r (length v) p q still lp lq (told_complete g ends (length v) p q v (le_refl (length v)) t))

      entry_least : (v : List ℕ) → Tells g ends p q v → entry square p q ≤ length v
      entry_least v t =
          ⊎_elim
          (λ (l : r < length v). omega (arith, entry_told v t))
          (λ l. leb-true (entry square p q) (length v)
          (sym ((stage p q lp lq).agrees (length v) (omega arith)) ∙ told_complete g ends (length v) p q v (le_refl (length v)) t))
          (lt_or_le r (length v))

      shortest : entry square p q ≤ r → Shortest (Tells g ends p q) (entry square p q)
      shortest l =
          let f = told_sound g ends (entry square p q) p q
          ((stage p q lp lq).agrees (entry square p q) l ∙ le-leb (entry square p q) (entry square p q) (le_refl (entry square p q))) in
          record { word = f.word; has = f.tells; long = omega (arith, f.short, entry_least f.word f.tells); least = entry_least }

      entry_noted : Noted (Tells g ends p q) (entry square p q)
      entry_noted = record {
        most = ⊎_elim (λ l. omega (arith, l, fits)) (λ h. omega (arith, h)) (stage p q lp lq).known;
        found = λ l. shortest (⊎_elim (λ h. h) (λ h. absurd (omega (arith, h, l))) (stage p q lp lq).known);
        none = λ h v t. omega (arith, entry_told v t, h, fits);
      }

    pub stage_last : HasRows g.states square → Squared g ends square
    stage_last size = record { size = size; noted = entry_noted }
