-- The states of a set taken lowest first, each once: over tests of states, and over the states of a word.
use mathlib.Core.Path.{◌≡◌, refl, sym, ◌∙◌}
use mathlib.Core.Bool.{Bool, true, false, not, ◌&&◌, ◌||◌}
use mathlib.Core.Logic.{⊎_elim}
use Prim.Native.Nat.{ℕ, ◌+◌, ◌≤◌, ◌<◌, zero-le}
use native.Mathlib.Nat.{le_refl}
use native.Mathlib.Omega.{arith}
use lib.Dec.{eqb, ltb}
use borrow.Author.Tests.{eq-eqb, ne_eqb, eqb-true, eqb-false, lt-ltb, le-ltb}
use Rattle.theory.specs.Below.{first, count}
use Rattle.state_set.specs.Member.{in_part}
use Rattle.state_set.proofs.Words.{part_none}
use Rattle.theory.proofs.Below.{and_left, first_le, first_here, first_below, lt_or_le, count_more}

-- what is left after some are taken out was there
pub stays : (left left' out : ℕ → Bool) → ((q : ℕ) → left' q ≡ (left q && not (out q))) → (q : ℕ) → left' q ≡ true → left q ≡ true
stays left left' out is q h = and_left (left q) (not (out q)) (sym (is q) ∙ h)

module _ (limit : ℕ) where
  -- the lowest state below the limit is in the set
  pub lowest_in_lem : (f : ℕ → Bool) {y : ℕ} → y ≡ first f 0 limit → y < limit → f y ≡ true
  lowest_in_lem f {y} e l = rw e (first_here f 0 limit (omega (arith, e, l)))

  -- where it is not below n, no state below n is in the set
  pub lowest_none : (f : ℕ → Bool) {n y : ℕ} → y ≡ first f 0 limit → n ≤ y → (q : ℕ) → q < n → f q ≡ false
  lowest_none f e l q lq = first_below f 0 limit q zero-le (omega (arith, e, l, lq))

  -- some states taken out, one of which was there, leave fewer
  pub fewer : (f h out : ℕ → Bool) {y : ℕ} → y < limit → f y ≡ true → out y ≡ true → ((q : ℕ) → h q ≡ (f q && not (out q))) → count limit h < count limit f
  fewer f h out {y} l t o is = count_more limit h f (λ q lq. stays f h out is q) y l (is y ∙ rw (t, o)) t

  module _ (f : ℕ → Bool) {b : Bool} (e : b ≡ eqb (first f 0 limit) limit) where
    -- the test for an empty set
    pub empty_none : b ≡ true → (q : ℕ) → q < limit → f q ≡ false
    empty_none t = lowest_none f refl (let z = eqb-true (first f 0 limit) limit (sym e ∙ t) in omega (arith, z))

    pub empty_some : b ≡ false → (q : ℕ) × (q < limit) × (f q ≡ true)
    empty_some t =
        let z = eqb-false (first f 0 limit) limit (sym e ∙ t) in
        let m = first_le f 0 limit in
        let l : first f 0 limit < limit = ⊎_elim (λ h. h) (λ h. absurd (z (omega (arith, m, h)))) (lt_or_le (first f 0 limit) limit) in
        (first f 0 limit, l, lowest_in_lem f refl l)

-- ---- the states of a word

-- an empty word has none
pub word_none : (w : ℕ) {word : ℕ} → word ≡ 0 → (q : ℕ) → in_part w word q ≡ false
word_none w e q = rw e (part_none w q)

-- ---- the states below a number

pub record Below (q : ℕ) (f : ℕ → Bool) : Type 0 where
  pub at : (x : ℕ) → f x ≡ ltb x q

pub below_none : {f : ℕ → Bool} → ((x : ℕ) → f x ≡ false) → Below 0 f
below_none none = record { at = λ x. none x ∙ rw (le-ltb x 0 zero-le) }

pub below_more : (limit : ℕ) {q : ℕ} {f h : ℕ → Bool} → Below q f → q < limit → ((x : ℕ) → h x ≡ (f x || (eqb x q && ltb q limit))) → Below (q + 1) h
below_more limit {q} B l is = record {
  at = λ x.
      is x ∙ rw (B.at x, lt-ltb q limit l)
      (⊎_elim
      (λ (b : x < q). rw (lt-ltb x q b, lt-ltb x (q + 1) (omega arith)))
      (λ b. ⊎_elim
      (λ (c : q < x). rw (le-ltb x q b, le-ltb x (q + 1) (omega arith), ne_eqb x q (λ e. omega arith)))
      (λ c. (let e : x ≡ q = omega arith in rw e (rw (le-ltb q q (le_refl q), lt-ltb q (q + 1) (omega arith), eq-eqb q q refl))))
      (lt_or_le q x))
      (lt_or_le x q));
}
