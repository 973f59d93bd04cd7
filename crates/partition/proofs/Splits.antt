-- What a split does to a partition, and blocks split one after another by a set.
use mathlib.Core.Path.{◌≡◌, refl, sym, ◌∙◌}
use mathlib.Core.Bool.{Bool, true, false, cond, not, ◌&&◌, ◌||◌}
use mathlib.Core.List.{List}
use mathlib.Core.Logic.{◌⊎◌, inl, inr, ⊎_elim}
use Prim.Native.Nat.{ℕ, zero, suc, min, ◌+◌, ◌≤◌, ◌<◌, zero-le}
use native.Mathlib.Nat.{le_refl}
use native.Mathlib.Omega.{arith}
use lib.Dec.{eqb, ltb}
use lib.ListN.{get_or}
use borrow.Author.Tests.{eq-eqb, ne_eqb, eqb-true, lt-ltb, le-ltb, ltb-true, not-true}
use Rattle.theory.specs.Below.{count}
use Rattle.theory.specs.Monitor.{state_limit}
use Rattle.theory.proofs.Below.{clash, not_clash, is_true, both_ways, lt_or_le, same_or_not, or_cases, and_left, and_right, count_le, count_more}
use Rattle.state_set.specs.declared.StateSet.{StateSet}
use Rattle.state_set.specs.Member.{member, no_states, set_at}
use Rattle.square.specs.Square.{never, place, Blank, entry}
use Rattle.rows.proofs.Visit.{fewer}
use Rattle.partition.specs.declared.Blocks.{Blocks}
use Rattle.partition.specs.Blocks.{block, Partition, between, Split, Parted, Finer, Parts, Stable, Divided}

-- blocks none of which is empty are no more than the states
blocks_most : (n m : ℕ) (number : ℕ → ℕ) → ((c : ℕ) → c < m → (q : ℕ) × (q < n) × (number q ≡ c)) → m ≤ n
blocks_most n m number some = (let l = many m (le_refl m) in let k = count_le n (λ q. ltb (number q) m) in omega (arith, l, k))
  where
    many : (c : ℕ) → c ≤ m → c ≤ count n (λ q. ltb (number q) c)
    many zero l = zero-le
    many (suc c) l =
        let w = some c l in
        let e = w.2 in
        let more = count_more n (λ q. ltb (number q) c) (λ q. ltb (number q) (suc c))
        (λ q _ t. lt-ltb (number q) (suc c) (let h = ltb-true (number q) c t in omega (arith, h)))
        w.0 w.1 (le-ltb (number w.0) c (omega (arith, e))) (lt-ltb (number w.0) (suc c) (omega (arith, e))) in
        let h = many c (omega (arith, l)) in
        omega (arith, h, more)

pub blocks_few : {n : ℕ} {square : List ℕ} {blocks : Blocks} → Partition n square blocks → blocks.count ≤ n
blocks_few {n} {blocks = blocks} P = blocks_most n blocks.count (block blocks) P.some

-- ---- finer blocks

pub finer_none : {n d : ℕ} {reason : ℕ → ℕ → Type 0} {square : List ℕ} {blocks : Blocks} → Finer n d reason square blocks square blocks
finer_none {blocks = blocks} = record { more = le_refl blocks.count; were_one = λ p q lp lq e. e; renumbered = λ q lq. inl refl; entries = λ p q lp lq. inl refl }

-- for a weaker reason
pub finer_as : {n d : ℕ} {reason : ℕ → ℕ → Type 0} (reason' : ℕ → ℕ → Type 0) {square : List ℕ} {blocks : Blocks} {square' : List ℕ} {blocks' : Blocks}
    → ((p q : ℕ) → p < n → q < n → block blocks p ≡ block blocks q → reason p q → reason' p q) → Finer n d reason square blocks square' blocks'
    → Finer n d reason' square blocks square' blocks'
finer_as reason' weaker F = record {
  more = F.more;
  were_one = F.were_one;
  renumbered = F.renumbered;
  entries = λ p q lp lq. ⊎_elim inl
      (λ h. inr (record { at = h.at; were_one = h.were_one; why = weaker p q lp lq h.were_one h.why; fresh = h.fresh })) (F.entries p q lp lq);
}

-- one after another
pub finer_then : {n d : ℕ} {reason : ℕ → ℕ → Type 0} {square : List ℕ} {blocks : Blocks} {square' : List ℕ} {blocks' : Blocks} {square'' : List ℕ}
    {blocks'' : Blocks} → Finer n d reason square blocks square' blocks' → Finer n d reason square' blocks' square'' blocks''
    → Finer n d reason square blocks square'' blocks''
finer_then {n} {d} {reason} {square} {blocks} {square'} {blocks'} {square''} {blocks''} F G = record {
  more = (let a = F.more in let b = G.more in omega (arith, a, b));
  were_one = λ p q lp lq e. F.were_one p q lp lq (G.were_one p q lp lq e);
  renumbered = λ q lq. ⊎_elim (λ e. ⊎_elim (λ f. inl (e ∙ f)) (λ l. inr (omega (arith, e, l))) (F.renumbered q lq))
      (λ l. inr (let m = F.more in omega (arith, l, m))) (G.renumbered q lq);
  entries = λ p q lp lq. ⊎_elim
      (λ e. ⊎_elim (λ f. inl (e ∙ f)) (λ h. inr (record {
        at = e ∙ h.at;
        were_one = h.were_one;
        why = h.why;
        fresh = ⊎_elim (λ l. inl (later p lp l)) (λ l. inr (later q lq l)) h.fresh;
      })) (F.entries p q lp lq))
      (λ h. inr (record {
        at = h.at;
        were_one = F.were_one p q lp lq h.were_one;
        why = h.why;
        fresh = (let m = F.more in ⊎_elim (λ l. inl (omega (arith, l, m))) (λ l. inr (omega (arith, l, m))) h.fresh);
      }))
      (G.entries p q lp lq);
}
  where
    later : (q : ℕ) → q < n → blocks.count ≤ block blocks' q → blocks.count ≤ block blocks'' q
    later q lq l = (let m = F.more in ⊎_elim (λ e. omega (arith, e, l)) (λ h. omega (arith, h, m)) (G.renumbered q lq))

-- what was stable stays stable
pub stable_later : {n d : ℕ} {reason : ℕ → ℕ → Type 0} {square : List ℕ} {blocks : Blocks} {square' : List ℕ} {blocks' : Blocks} {set : ℕ → Bool}
    → Finer n d reason square blocks square' blocks' → Stable n set blocks → Stable n set blocks'
stable_later F S = record { at = λ p q lp lq e. S.at p q lp lq (F.were_one p q lp lq e) }

-- ---- block b split by a test

pub not_same : {a b : Bool} → not a ≡ not b → a ≡ b
not_same {a = true} {b = true} e = refl
not_same {a = true} {b = false} e = sym e
not_same {a = false} {b = true} e = sym e
not_same {a = false} {b = false} e = refl

-- the ones of block b are its states that pass the test, the others are its other states, and there are some of both
pub record Halves (n : ℕ) (square : List ℕ) (blocks : Blocks) (b : ℕ) (f one others : ℕ → Bool) : Type 0 where
  pub partition : Partition n square blocks
  pub below : b < blocks.count
  pub is_one : (q : ℕ) → one q ≡ (set_at blocks.members b q && f q)
  pub is_others : (q : ℕ) → others q ≡ (set_at blocks.members b q && not (f q))
  pub in_one : (q : ℕ) × (one q ≡ true)
  pub in_others : (q : ℕ) × (others q ≡ true)

pub halves_swap : {n b : ℕ} {square : List ℕ} {blocks : Blocks} {f one others : ℕ → Bool} → Halves n square blocks b f one others
    → Halves n square blocks b (λ q. not (f q)) others one
halves_swap {b = b} {blocks = blocks} {f} H = record {
  partition = H.partition;
  below = H.below;
  is_one = H.is_others;
  is_others = λ q. H.is_one q ∙ twice (set_at blocks.members b q) (f q);
  in_one = H.in_others;
  in_others = H.in_one;
}
  where
    twice : (s t : Bool) → (s && t) ≡ (s && not (not t))
    twice true true = refl
    twice true false = refl
    twice false t = refl

module _ {n d b : ℕ} {square : List ℕ} {blocks : Blocks} {f one others : ℕ → Bool} (fits : d < never)
    (H : Halves n square blocks b f one others) where
  abbrev P : Partition n square blocks
  P = H.partition

  abbrev lb : b < blocks.count
  lb = H.below

  of_block : (q : ℕ) → set_at blocks.members b q ≡ true → (q < n) × (block blocks q ≡ b)
  of_block q t =
      let h = sym (P.members_are b q lb) ∙ t in
      (ltb-true q n (and_left (ltb q n) (eqb (block blocks q) b) h), eqb-true (block blocks q) b (and_right (ltb q n) (eqb (block blocks q) b) h))

  in_block : (q : ℕ) → q < n → block blocks q ≡ b → set_at blocks.members b q ≡ true
  in_block q lq e = P.members_are b q lb ∙ rw (lt-ltb q n lq, eq-eqb (block blocks q) b e)

  one_is : (q : ℕ) → one q ≡ true → (q < n) × (block blocks q ≡ b) × (f q ≡ true)
  one_is q t =
      let h = sym (H.is_one q) ∙ t in
      let o = of_block q (and_left (set_at blocks.members b q) (f q) h) in
      (o.0, o.1, and_right (set_at blocks.members b q) (f q) h)

  others_is : (q : ℕ) → others q ≡ true → (q < n) × (block blocks q ≡ b) × (f q ≡ false)
  others_is q t =
      let h = sym (H.is_others q) ∙ t in
      let o = of_block q (and_left (set_at blocks.members b q) (not (f q)) h) in
      (o.0, o.1, not-true (f q) (and_right (set_at blocks.members b q) (not (f q)) h))

  -- a state of the block that is not one is among the others
  if_not : (q : ℕ) → q < n → block blocks q ≡ b → one q ≡ false → others q ≡ true
  if_not q lq e h = H.is_others q ∙ rw (in_block q lq e, not_clash (λ (t : f q ≡ true). clash (H.is_one q ∙ rw (in_block q lq e, t)) h))

  not_others : (q : ℕ) → one q ≡ true → others q ≡ false
  not_others q t = not_clash (λ h. clash (one_is q t).2 (others_is q h).2)

  -- the numbers after the split
  abbrev number : ℕ → ℕ
  number q = cond (one q) blocks.count (block blocks q)

  number_some : (c : ℕ) → c < blocks.count + 1 → (q : ℕ) × (q < n) × (number q ≡ c)
  number_some c l = ⊎_elim (λ (e : c ≡ blocks.count). (H.in_one.0, (one_is H.in_one.0 H.in_one.1).0, rw H.in_one.1 (sym e)))
      (λ ne. ⊎_elim (λ (e : c ≡ b). of_others e) (λ nb. elsewhere ne nb) (same_or_not c b)) (same_or_not c blocks.count)
    where
      of_others : c ≡ b → (q : ℕ) × (q < n) × (number q ≡ c)
      of_others e =
          let o = others_is H.in_others.0 H.in_others.1 in
          let h : one H.in_others.0 ≡ false = not_clash (λ t. clash H.in_others.1 (not_others H.in_others.0 t)) in
          (H.in_others.0, o.0, rw h (o.1 ∙ sym e))

      elsewhere : (c ≡ blocks.count → ⊥) → (c ≡ b → ⊥) → (q : ℕ) × (q < n) × (number q ≡ c)
      elsewhere ne nb =
          let lc : c < blocks.count = ⊎_elim (λ h. h) (λ h. absurd (ne (omega (arith, h, l)))) (lt_or_le c blocks.count) in
          let w = P.some c lc in
          let h : one w.0 ≡ false = not_clash (λ t. nb (sym w.2 ∙ (one_is w.0 t).1)) in
          (w.0, w.1, rw h w.2)

  -- there is room for the new block
  room : blocks.count < n
  room = (let l = blocks_most n (blocks.count + 1) number number_some in omega (arith, l))

  -- what a split asks for
  pub split_asked : (b < state_limit) × (blocks.count < state_limit)
  split_asked = (let l = room in let few = P.few in (omega (arith, l, lb, few), omega (arith, l, few)))

  module _ {square' : List ℕ} {blocks' : Blocks} (S : Split b one others d square blocks square' blocks') where
    numbered : (q : ℕ) → q < n → block blocks' q ≡ number q
    numbered q lq = (let few = P.few in S.numbered q (omega (arith, lq, few)))

    entered_at : (p q : ℕ) → p < n → q < n → entry square' p q ≡ cond (between one others p q) d (entry square p q)
    entered_at p q lp lq = (let few = P.few in S.entries.at p q (omega (arith, lp, few)) (omega (arith, lq, few)))

    other_number : b ≡ blocks.count → ⊥
    other_number e = omega (arith, e, lb)

    members_after : (c q : ℕ) → c < blocks.count + 1 → set_at blocks'.members c q ≡ (ltb q n && eqb (block blocks' q) c)
    members_after c q lc = ⊎_elim inside outside (lt_or_le q n)
      where
        outside : n ≤ q → set_at blocks'.members c q ≡ (ltb q n && eqb (block blocks' q) c)
        outside l = rw (le-ltb q n l) (⊎_elim
            (λ (e : c ≡ blocks.count). rw e (S.new q ∙ not_clash (λ t. (let h = (one_is q t).0 in omega (arith, h, l)))))
            (λ ne. ⊎_elim
            (λ (e : c ≡ b). rw e (S.old other_number q ∙ not_clash (λ t. (let h = (others_is q t).0 in omega (arith, h, l)))))
            (λ nb. S.elsewhere c q nb ne ∙ P.members_are c q (before ne) ∙ rw (le-ltb q n l))
            (same_or_not c b))
            (same_or_not c blocks.count))
          where
            before : (c ≡ blocks.count → ⊥) → c < blocks.count
            before ne = ⊎_elim (λ h. h) (λ h. absurd (ne (omega (arith, h, lc)))) (lt_or_le c blocks.count)

        inside : q < n → set_at blocks'.members c q ≡ (ltb q n && eqb (block blocks' q) c)
        inside lq = rw (lt-ltb q n lq, numbered q lq) (go (one q) refl)
          where
            below : block blocks q < blocks.count
            below = P.below q lq

            here : (u : Bool) → one q ≡ u → c ≡ blocks.count → set_at blocks'.members c q ≡ eqb (cond u blocks.count (block blocks q)) c
            here true h e = rw e (S.new q ∙ h ∙ sym (eq-eqb blocks.count blocks.count refl))
            here false h e = rw e (S.new q ∙ h ∙ sym (ne_eqb (block blocks q) blocks.count (λ z. omega (arith, z, below))))

            there : (u : Bool) → one q ≡ u → (c ≡ blocks.count → ⊥) → c ≡ b → set_at blocks'.members c q ≡ eqb (cond u blocks.count (block blocks q)) c
            there true h ne e = rw e (S.old other_number q ∙ not_others q h ∙ sym (ne_eqb blocks.count b (λ z. omega (arith, z, lb))))
            there false h ne e = rw e (S.old other_number q ∙ both_ways (λ t. eq-eqb (block blocks q) b (others_is q t).1)
                (λ t. if_not q lq (eqb-true (block blocks q) b t) h))

            elsewhere : (u : Bool) → one q ≡ u → (c ≡ blocks.count → ⊥) → (c ≡ b → ⊥) → set_at blocks.members c q ≡ eqb (cond u blocks.count (block blocks q)) c
            elsewhere u h ne nb =
                let lc' : c < blocks.count = ⊎_elim (λ z. z) (λ z. absurd (ne (omega (arith, z, lc)))) (lt_or_le c blocks.count) in
                P.members_are c q lc' ∙ rw (lt-ltb q n lq) (same u h)
              where
                same : (u : Bool) → one q ≡ u → eqb (block blocks q) c ≡ eqb (cond u blocks.count (block blocks q)) c
                same true h = ne_eqb (block blocks q) c (λ z. nb (sym z ∙ (one_is q h).1)) ∙ sym (ne_eqb blocks.count c (λ z. ne (sym z)))
                same false h = refl

            go : (u : Bool) → one q ≡ u → set_at blocks'.members c q ≡ eqb (cond u blocks.count (block blocks q)) c
            go u h = ⊎_elim (here u h)
                (λ ne. ⊎_elim (there u h ne) (λ nb. S.elsewhere c q nb ne ∙ elsewhere u h ne nb) (same_or_not c b)) (same_or_not c blocks.count)

    together_after : (p q : ℕ) → p < n → q < n → eqb (entry square' p q) never ≡ eqb (block blocks' p) (block blocks' q)
    together_after p q lp lq = rw (entered_at p q lp lq, numbered p lp, numbered q lq) (go (one p) (one q) refl refl)
      where
        -- one of p and q is one of them and the other, x, is not
        apart : (x y : ℕ) → x < n → block blocks y ≡ b → one x ≡ false → (v : Bool) → others x ≡ v → (e : ℕ)
            → eqb e never ≡ eqb (block blocks x) (block blocks y) → eqb (cond v d e) never ≡ false
        apart x y lx ey hx true h e t = ne_eqb d never (λ z. omega (arith, z, fits))
        apart x y lx ey hx false h e t = t ∙ ne_eqb (block blocks x) (block blocks y) (λ z. clash (if_not x lx (z ∙ ey) hx) h)

        or_no : (u : Bool) → (u || false) ≡ u
        or_no true = refl
        or_no false = refl

        flip : eqb (block blocks p) (block blocks q) ≡ eqb (block blocks q) (block blocks p)
        flip = both_ways (λ t. eq-eqb (block blocks q) (block blocks p) (sym (eqb-true (block blocks p) (block blocks q) t)))
            (λ t. eq-eqb (block blocks p) (block blocks q) (sym (eqb-true (block blocks q) (block blocks p) t)))

        go : (u v : Bool) → one p ≡ u → one q ≡ v
            → eqb (cond ((u && others q) || (v && others p)) d (entry square p q)) never
            ≡ eqb (cond u blocks.count (block blocks p)) (cond v blocks.count (block blocks q))
        go true true hu hv =
            rw (not_others q hv, not_others p hu)
            (P.together p q lp lq ∙ eq-eqb (block blocks p) (block blocks q) ((one_is p hu).1 ∙ sym (one_is q hv).1) ∙ sym (eq-eqb blocks.count blocks.count refl))
        go true false hu hv =
            rw (or_no (others q))
            (apart q p lq (one_is p hu).1 hv (others q) refl (entry square p q) (P.together p q lp lq ∙ flip)
            ∙ sym (ne_eqb blocks.count (block blocks q) (λ z. (let l = P.below q lq in omega (arith, z, l)))))
        go false true hu hv =
            apart p q lp (one_is q hv).1 hu (others p) refl (entry square p q) (P.together p q lp lq)
            ∙ sym (ne_eqb (block blocks p) blocks.count (λ z. (let l = P.below p lp in omega (arith, z, l))))
        go false false hu hv = P.together p q lp lq

    pub split_partition : Partition n square' blocks'
    split_partition = record {
      few = P.few;
      below = λ q lq. rw (numbered q lq, S.counted) (low (one q) q (P.below q lq));
      some = λ c l. (let w = number_some c (let e = S.counted in omega (arith, e, l)) in (w.0, w.1, numbered w.0 w.1 ∙ w.2));
      members_are = λ c q l. members_after c q (let e = S.counted in omega (arith, e, l));
      together = together_after;
    }
      where
        low : (u : Bool) (q : ℕ) → block blocks q < blocks.count → cond u blocks.count (block blocks q) < suc blocks.count
        low true q l = omega arith
        low false q l = omega (arith, l)

    pub split_finer : Finer n d (Parts f) square blocks square' blocks'
    split_finer = record {
      more = (let e = S.counted in omega (arith, e));
      were_one = λ p q lp lq e. one_before p q lp lq (one p) (one q) refl refl (sym (numbered p lp) ∙ e ∙ numbered q lq);
      renumbered = λ q lq. changed q lq (one q) refl;
      entries = λ p q lp lq. entered p q lp lq (between one others p q) refl;
    }
      where
        one_before : (p q : ℕ) → p < n → q < n → (u v : Bool) → one p ≡ u → one q ≡ v
            → cond u blocks.count (block blocks p) ≡ cond v blocks.count (block blocks q) → block blocks p ≡ block blocks q
        one_before p q lp lq true true hu hv e = (one_is p hu).1 ∙ sym (one_is q hv).1
        one_before p q lp lq true false hu hv e = (let l = P.below q lq in absurd (omega (arith, e, l)))
        one_before p q lp lq false true hu hv e = (let l = P.below p lp in absurd (omega (arith, e, l)))
        one_before p q lp lq false false hu hv e = e

        changed : (q : ℕ) → q < n → (u : Bool) → one q ≡ u → (block blocks' q ≡ block blocks q) ⊎ (blocks.count ≤ block blocks' q)
        changed q lq true h = inr (rw (numbered q lq, h) (le_refl blocks.count))
        changed q lq false h = inl (numbered q lq ∙ rw h)

        new : (q : ℕ) → one q ≡ true → blocks.count ≤ block blocks' q
        new q t = rw (numbered q (one_is q t).0, t) (le_refl blocks.count)

        entered : (p q : ℕ) → p < n → q < n → (v : Bool) → between one others p q ≡ v
            → (entry square' p q ≡ entry square p q) ⊎ Parted d (Parts f) blocks square' blocks' p q
        entered p q lp lq false h = inl (entered_at p q lp lq ∙ rw h)
        entered p q lp lq true h = inr (⊎_elim
            (λ t.
            let o = one_is p (and_left (one p) (others q) t) in
            let s = others_is q (and_right (one p) (others q) t) in
            record {
              at = entered_at p q lp lq ∙ rw h;
              were_one = o.1 ∙ sym s.1;
              why = λ e. clash (sym e ∙ o.2) s.2;
              fresh = inl (new p (and_left (one p) (others q) t));
            })
            (λ t.
            let o = one_is q (and_left (one q) (others p) t) in
            let s = others_is p (and_right (one q) (others p) t) in
            record {
              at = entered_at p q lp lq ∙ rw h;
              were_one = s.1 ∙ sym o.1;
              why = λ e. clash (e ∙ o.2) s.2;
              fresh = inr (new q (and_left (one q) (others p) t));
            })
            (or_cases (one p && others q) (one q && others p) h))

    -- the test is the same for two states of a block of the two
    pub split_stable : (p q : ℕ) → p < n → q < n → block blocks p ≡ b → block blocks' p ≡ block blocks' q → f p ≡ f q
    split_stable p q lp lq eb e = go (one p) (one q) refl refl
      where
        both : block blocks q ≡ b
        both = sym (split_finer.were_one p q lp lq e) ∙ eb

        go : (u v : Bool) → one p ≡ u → one q ≡ v → f p ≡ f q
        go true true hu hv = (one_is p hu).2 ∙ sym (one_is q hv).2
        go true false hu hv =
            let a : block blocks' p ≡ blocks.count = numbered p lp ∙ rw hu in
            let z : block blocks' q ≡ block blocks q = numbered q lq ∙ rw hv in
            let l = P.below q lq in
            absurd (omega (arith, a, z, e, l))
        go false true hu hv =
            let a : block blocks' p ≡ block blocks p = numbered p lp ∙ rw hu in
            let z : block blocks' q ≡ blocks.count = numbered q lq ∙ rw hv in
            let l = P.below p lp in
            absurd (omega (arith, a, z, e, l))
        go false false hu hv = (others_is p (if_not p lp eb hu)).2 ∙ sym (others_is q (if_not q lq both hv)).2

-- ---- blocks split one after another by a set

module _ {n b : ℕ} {square : List ℕ} {blocks : Blocks} (P : Partition n square blocks) (set : ℕ → Bool)
    (some : (q : ℕ) × (q < n) × (block blocks q ≡ b) × (set q ≡ true)) {whole outside : ℕ → Bool} (is_whole : (q : ℕ) → whole q ≡ set_at blocks.members b q)
    (is-out : (q : ℕ) → outside q ≡ (whole q && not (set q))) where
  one_below : b < blocks.count
  one_below = (let l = P.below some.0 some.1 in let e = some.2 in omega (arith, l, e))

  in_whole : (q : ℕ) → q < n → block blocks q ≡ b → whole q ≡ true
  in_whole q lq e = is_whole q ∙ P.members_are b q one_below ∙ rw (lt-ltb q n lq, eq-eqb (block blocks q) b e)

  -- a block that lies in the set
  pub whole_stable : ((q : ℕ) → q < n → outside q ≡ false) → (p q : ℕ) → p < n → q < n → block blocks p ≡ b → block blocks p ≡ block blocks q → set p ≡ set q
  whole_stable none p q lp lq eb e = all p lp eb ∙ sym (all q lq (sym e ∙ eb))
    where
      all : (x : ℕ) → x < n → block blocks x ≡ b → set x ≡ true
      all x lx ex = is_true (λ h. clash (is-out x ∙ rw (in_whole x lx ex, h)) (none x lx))

  -- one that does not
  pub cut : {inside : ℕ → Bool} → ((q : ℕ) → inside q ≡ (whole q && set q)) → {limit : ℕ} → (q : ℕ) × (q < limit) × (outside q ≡ true)
      → Halves n square blocks b set inside outside
  cut is-in other = record {
    partition = P;
    below = one_below;
    is_one = λ q. is-in q ∙ rw (is_whole q);
    is_others = λ q. is-out q ∙ rw (is_whole q);
    in_one = (some.0, is-in some.0 ∙ rw (in_whole some.0 some.1 some.2, some.3));
    in_others = (other.0, other.2);
  }

-- the blocks that have states of the set which are not left are split
pub record Splitting (n d : ℕ) (set : ℕ → Bool) (square₀ : List ℕ) (blocks₀ : Blocks) (left : ℕ → Bool) (square : List ℕ) (blocks : Blocks) : Type 0 where
  pub partition : Partition n square blocks
  pub finer : Finer n d (Parts set) square₀ blocks₀ square blocks
  pub inside : (q : ℕ) → left q ≡ true → set q ≡ true
  pub done : (p q : ℕ) → p < n → q < n → block blocks p ≡ block blocks q → set p ≡ true → left p ≡ false → set q ≡ true

pub splitting_begins : {n d : ℕ} {set : ℕ → Bool} {square : List ℕ} {blocks : Blocks} → Partition n square blocks
    → Splitting n d set square blocks set square blocks
splitting_begins P = record { partition = P; finer = finer_none; inside = λ q t. t; done = λ p q lp lq e t h. absurd (clash t h) }

module _ {n d : ℕ} {set : ℕ → Bool} {square₀ : List ℕ} {blocks₀ : Blocks} {left : ℕ → Bool} {square : List ℕ} {blocks : Blocks}
    (S : Splitting n d set square₀ blocks₀ left square blocks) where
  pub splitting_ends : ((q : ℕ) → q < n → left q ≡ false) → Divided n d set square₀ blocks₀ square blocks
  splitting_ends none = record {
    partition = S.partition;
    finer = S.finer;
    stable = record { at = λ p q lp lq e. both_ways (λ t. S.done p q lp lq e t (none p lp)) (λ t. S.done q p lq lp (sym e) t (none q lq)) };
  }

  module _ {y b : ℕ} (ly : y < n) (is : b ≡ block blocks y) {whole left' : ℕ → Bool} (is_whole : (q : ℕ) → whole q ≡ set_at blocks.members b q)
      (is_left : (q : ℕ) → left' q ≡ (left q && not (whole q))) where
    made_below : b < blocks.count
    made_below = (let l = S.partition.below y ly in omega (arith, l, is))

    block_is : (q : ℕ) → q < n → whole q ≡ eqb (block blocks q) b
    block_is q lq = is_whole q ∙ S.partition.members_are b q made_below ∙ rw (lt-ltb q n lq)

    -- fewer are left
    pub splitting_less : (limit : ℕ) → n ≤ limit → left y ≡ true → count limit left' < count limit left
    splitting_less limit few t =
        fewer limit left left' whole (omega (arith, ly, few)) t (block_is y ly ∙ eq-eqb (block blocks y) b (sym is)) is_left

    pub splitting_more : {square' : List ℕ} {blocks' : Blocks} → Partition n square' blocks' → Finer n d (Parts set) square blocks square' blocks'
        → ((p q : ℕ) → p < n → q < n → block blocks p ≡ b → block blocks' p ≡ block blocks' q → set p ≡ set q)
        → Splitting n d set square₀ blocks₀ left' square' blocks'
    splitting_more {blocks' = blocks'} P F stable = record {
      partition = P;
      finer = finer_then S.finer F;
      inside = λ q t. S.inside q (and_left (left q) (not (whole q)) (sym (is_left q) ∙ t));
      done = λ p q lp lq e t h. ⊎_elim
          (λ (eb : block blocks p ≡ b). sym (stable p q lp lq eb e) ∙ t)
          (λ ne. S.done p q lp lq (F.were_one p q lp lq e) t (out p lp ne h))
          (same_or_not (block blocks p) b);
    }
      where
        out : (p : ℕ) → p < n → (block blocks p ≡ b → ⊥) → left' p ≡ false → left p ≡ false
        out p lp ne h = not_clash (λ t. clash (is_left p ∙ rw (t, block_is p lp, ne_eqb (block blocks p) b ne)) h)

-- ---- all states in one block

-- every number is 0
pub first_partition : {n count : ℕ} {square numbers : List ℕ} {members : List StateSet} → n ≤ state_limit → count ≡ min n 1
    → ((q : ℕ) → q < n → get_or numbers q 0 ≡ 0) → ((q : ℕ) → member (get_or members 0 no_states) q ≡ ltb q n) → Blank n square
    → Partition n square (record { numbers = numbers; count = count; members = members })
first_partition {n} {count} {square} {numbers} few e none is B = record {
  few = few;
  below = λ q lq. (let z = none q lq in omega (arith, z, e, lq));
  some = λ c lc. (0, omega (arith, lc, e), (let z = none 0 (omega (arith, lc, e)) in omega (arith, z, e, lc)));
  members_are = λ c q lc. (let z : c ≡ 0 = omega (arith, lc, e) in rw z (is q ∙ inside q));
  together = λ p q lp lq. eq-eqb (entry square p q) never (B.filled (place p q) (omega (arith, lp, lq, few)))
      ∙ sym (eq-eqb (get_or numbers p 0) (get_or numbers q 0) (none p lp ∙ sym (none q lq)));
}
  where
    inside : (q : ℕ) → ltb q n ≡ (ltb q n && eqb (get_or numbers q 0) 0)
    inside q = go (ltb q n) refl
      where
        go : (b : Bool) → ltb q n ≡ b → ltb q n ≡ (ltb q n && eqb (get_or numbers q 0) 0)
        go true h = rw h (sym (eq-eqb (get_or numbers q 0) 0 (none q (ltb-true q n h))))
        go false h = rw h
