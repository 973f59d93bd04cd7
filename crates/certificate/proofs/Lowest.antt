-- The lowest state of a block: how the lowest states are entered, and that comparing with them finds the same place as comparing with every lower state.
use mathlib.Core.Path.{◌≡◌, refl, sym, ap, ◌∙◌, subst}
use mathlib.Core.Bool.{Bool, true, false, not, cond}
use mathlib.Core.List.{List}
use mathlib.Core.Logic.{⊎_elim}
use Prim.Native.Nat.{ℕ, suc, ◌-◌, ◌≤◌, ◌<◌, zero-le}
use native.Mathlib.Nat.{le_antisymm, sub-zero}
use native.Mathlib.Omega.{arith}
use lib.Dec.{eqb}
use lib.ListN.{length, get_or, set, length-set}
use lib.Seq.{get_or-set_same, get_or-set_other}
use borrow.Author.Tests.{eqb-true, eqb-false, eq-eqb, not-true}
use Rattle.theory.specs.Below.{first}
use Rattle.theory.specs.Certificate.{block_of, same_block, disagrees}
use Rattle.theory.proofs.Below.{clash, not_clash, is_true, lt_or_le, first_is, first_le, first_below, first_here}
use Rattle.theory.proofs.Certificate.{Equivalence, disagrees_at, disagrees_by}
use Rattle.certificate.specs.Agreeing.{Numbered, lowest_in, Lowest, differs_from_lowest}

-- ---- entering them, from the highest state down

-- the states from i on have the lowest of these in their block
pub record Entered (limit : ℕ) (c : List ℕ) (i : ℕ) (low : List ℕ) : Type 0 where
  pub size : length low ≡ limit
  pub upto : i ≤ length c
  pub each : (q : ℕ) → i ≤ q → q < length c → get_or low (block_of c q) 0 ≡ first (λ p. same_block c p q) i (length c - i)

pub enter_goes_on : {limit n : ℕ} {c low : List ℕ} (i : ℕ) → Numbered limit n c → i < length c → Entered limit c (suc i) low
    → Entered limit c i (set low (block_of c i) i)
unfolding first
enter_goes_on {c} {low} i numbered l x = record { size = length-set low (block_of c i) i ∙ x.size; upto = omega (arith, l); each = each }
  where
    each : (q : ℕ) → i ≤ q → q < length c → get_or (set low (block_of c i) i) (block_of c q) 0 ≡ first (λ p. same_block c p q) i (length c - i)
    each q li lq =
        let left : length c - i ≡ suc (length c - suc i) = omega (arith, l) in
        go (same_block c i q) refl ∙ ap (first (λ p. same_block c p q) i) (sym left)
      where
        go : (b : Bool) → same_block c i q ≡ b
            → get_or (set low (block_of c i) i) (block_of c q) 0 ≡ cond b i (first (λ p. same_block c p q) (suc i) (length c - suc i))
        go true e =
            let same = eqb-true (block_of c i) (block_of c q) e in
            subst (λ (z : ℕ). get_or (set low (block_of c i) i) z 0 ≡ i) same
            (get_or-set_same low (block_of c i) i 0 (omega (arith, x.size, numbered.most, numbered.below i (omega (arith, l, numbered.size)))))
        go false e =
            let other = eqb-false (block_of c i) (block_of c q) e in
            let later : suc i ≤ q = ⊎_elim (λ (s : i < q). s) (λ (s : q ≤ i). absurd (other (ap (block_of c) (le_antisymm li s)))) (lt_or_le i q) in
            get_or-set_other low (block_of c i) (block_of c q) i 0 (λ z. other (sym z)) ∙ x.each q later lq

pub enter_ends : {limit : ℕ} {c low : List ℕ} {i : ℕ} → i ≤ 0 → Entered limit c i low → Lowest limit c low
enter_ends {c} {low} {i} l x =
    let z : i ≡ 0 = omega arith in
    record {
      size = x.size;
      entered = λ q lq. subst (λ (j : ℕ). get_or low (block_of c q) 0 ≡ first (λ p. same_block c p q) j (length c - j)) z (x.each q (omega (arith, z)) lq)
          ∙ ap (first (λ p. same_block c p q) 0) (sub-zero (length c));
    }

-- ---- the lowest state of a block

module _ (c : List ℕ) where
  module _ (q : ℕ) (l : q < length c) where
    pub lowest_most : lowest_in c q ≤ q
    lowest_most =
        ⊎_elim
        (λ (s : q < lowest_in c q).
        absurd (clash (eq-eqb (block_of c q) (block_of c q) refl) (first_below (λ p. same_block c p q) 0 (length c) q zero-le s)))
        (λ s. s) (lt_or_le q (lowest_in c q))

    lowest_block : block_of c (lowest_in c q) ≡ block_of c q
    lowest_block = eqb-true (block_of c (lowest_in c q)) (block_of c q) (first_here (λ p. same_block c p q) 0 (length c) (omega (arith, lowest_most, l)))

    -- it is found among the states up to q
    pub lowest_upto : first (λ p. same_block c p q) 0 q ≡ lowest_in c q
    lowest_upto =
        first_is (λ p. same_block c p q) q 0 (lowest_in c q) zero-le (omega (arith, lowest_most)) (first_below (λ p. same_block c p q) 0 (length c))
        (λ b. first_here (λ p. same_block c p q) 0 (length c) (omega (arith, b, l)))

  lowest_same : (p q : ℕ) → block_of c p ≡ block_of c q → lowest_in c p ≡ lowest_in c q
  lowest_same p q e = ap (λ (b : ℕ). first (λ x. eqb (block_of c x) b) 0 (length c)) e

  module _ (agree : ℕ → ℕ → Bool) where
    abbrev differs : ℕ → Bool
    differs = differs_from_lowest c agree

    abbrev place : ℕ
    place = first differs 0 (length c)

    -- comparing with the lowest state of the block finds the same place as comparing with every lower state of it
    module _ (equal : Equivalence agree) where
      found : (q : ℕ) → q < length c → differs q ≡ true → disagrees agree c q ≡ true
      found q l e =
          let apart = not-true (agree (lowest_in c q) q) e in
          let below : lowest_in c q < q = ⊎_elim (λ (s : lowest_in c q < q). s)
          (λ (s : q ≤ lowest_in c q). absurd (clash (subst (λ (z : ℕ). agree z q ≡ true) (le_antisymm s (lowest_most q l)) (equal.itself q)) apart))
          (lt_or_le (lowest_in c q) q) in
          disagrees_at agree c (lowest_in c q) q below (lowest_block q l) apart

      passed : (q : ℕ) → q < place → disagrees agree c q ≡ true → ⊥
      passed q l t =
          let d = disagrees_by agree c q t in
          let near = subst (λ (z : ℕ). agree z d.0 ≡ true) (lowest_same d.0 q d.2) (agrees d.0 (omega (arith, d.1, l))) in
          clash (equal.others (lowest_in c q) d.0 q near (agrees q l)) d.3
        where
          agrees : (p : ℕ) → p < place → agree (lowest_in c p) p ≡ true
          agrees p s = is_true (λ h. clash (ap not h) (first_below differs 0 (length c) p zero-le s))

      pub same_place : first (disagrees agree c) 0 (length c) ≡ place
      same_place =
          first_is (disagrees agree c) (length c) 0 place zero-le (first_le differs 0 (length c)) (λ q _ l. not_clash (passed q l))
          (λ l. found place (omega (arith, l)) (first_here differs 0 (length c) l))

      pub by_lowest : {n : ℕ} → length c ≡ n → first (disagrees agree c) 0 n ≡ first (differs_from_lowest c agree) 0 n
      by_lowest e = subst (λ (n : ℕ). first (disagrees agree c) 0 n ≡ first (differs_from_lowest c agree) 0 n) e same_place
