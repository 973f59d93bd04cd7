-- Two words as one set: what holds of each word's bits holds of the states.
use mathlib.Core.Path.{◌≡◌, refl, sym, ap, ◌∙◌}
use mathlib.Core.Bool.{Bool, true, false, cond, not, ◌&&◌, ◌||◌, and-false, or-false}
use mathlib.Core.Logic.{⊎_elim}
use Prim.Native.Nat.{ℕ, ◌+◌, ◌-◌, ◌/◌, ◌%◌, ◌^◌, ◌≤◌, ◌<◌}
use native.Mathlib.Omega.{arith}
use lib.Dec.{eqb, ltb}
use lib.Bits.{bit_and, bit_or}
use lib.Count.{ones}
use borrow.Author.Tests.{eq-eqb, ne_eqb, eqb-true, eqb-false, lt-ltb, le-ltb}
use Rattle.theory.specs.Below.{count}
use Rattle.theory.proofs.Below.{both_ways, lt_or_le, count_same, count_joined}
use Rattle.theory.proofs.Bits.{bit, bit_empty, bit_high, bit_and_lem, bit_or_lem, bit_minus, ones_count}
use Rattle.state_set.specs.Member.{in_word, in_words, is_part, in_part}

module _ (low high : ℕ) where
  pub low_at : (q : ℕ) → q < 64 → in_words low high q ≡ in_word low q
  unfolding in_words
  low_at q l = rw (lt-ltb q 64 l)

  pub high_at : (q : ℕ) → in_words low high (64 + q) ≡ in_word high q
  unfolding in_words
  high_at q = (let e : 64 + q - 64 ≡ q = omega arith in rw (le-ltb (64 + q) 64 (omega arith), e))

  pub high_from : (q : ℕ) → 64 ≤ q → in_words low high q ≡ in_word high (q - 64)
  unfolding in_words
  high_from q l = rw (le-ltb q 64 l)

-- what is so in both words is so in the set
pub each_word : (low high : ℕ) {f : ℕ → Bool} → ((q : ℕ) → q < 64 → in_word low q ≡ f q) → ((q : ℕ) → 64 ≤ q → in_word high (q - 64) ≡ f q)
    → (q : ℕ) → in_words low high q ≡ f q
each_word low high L H q = ⊎_elim (λ l. low_at low high q l ∙ L q l) (λ (l : 64 ≤ q). high_from low high q l ∙ H q l) (lt_or_le q 64)

-- an operation on bits, done word by word
pub words_by : (op : Bool → Bool → Bool) (a b c d r s : ℕ) → ((i : ℕ) → in_word r i ≡ op (in_word a i) (in_word b i))
    → ((i : ℕ) → in_word s i ≡ op (in_word c i) (in_word d i)) → (q : ℕ) → in_words r s q ≡ op (in_words a c q) (in_words b d q)
words_by op a b c d r s L H =
    each_word r s (λ q l. L q ∙ rw (low_at a c q l, low_at b d q l)) (λ q l. H (q - 64) ∙ rw (high_from a c q l, high_from b d q l))

pub words_none : (q : ℕ) → in_words 0 0 q ≡ false
unfolding in_word
words_none = each_word 0 0 (λ q l. bit_empty q) (λ q l. bit_empty (q - 64))

-- ---- one state more

-- in the lower word, or in the upper one
pub with_low : (low high r q : ℕ) → q < 64 → ((p : ℕ) → in_word r p ≡ (in_word low p || (eqb p q && ltb q 64)))
    → (p : ℕ) → in_words r high p ≡ (in_words low high p || (eqb p q && ltb q 128))
with_low low high r q l is =
    each_word r high
    (λ p lp. is p ∙ rw (low_at low high p lp, lt-ltb q 64 l, lt-ltb q 128 (omega (arith, l))))
    (λ p lp. rw (high_from low high p lp, ne_eqb p q (λ e. omega (arith, e, l, lp))) (sym (or-false (in_word high (p - 64)))))

pub with_high : (low high r q : ℕ) → 64 ≤ q → q < 128 → ((p : ℕ) → in_word r p ≡ (in_word high p || (eqb p (q - 64) && ltb (q - 64) 64)))
    → (p : ℕ) → in_words low r p ≡ (in_words low high p || (eqb p q && ltb q 128))
with_high low high r q m l is =
    each_word low r
    (λ p lp. rw (low_at low high p lp, ne_eqb p q (λ e. omega (arith, e, m, lp))) (sym (or-false (in_word low p))))
    (λ p lp. is (p - 64) ∙ rw (high_from low high p lp, same p lp, lt-ltb (q - 64) 64 (omega (arith, m, l)), lt-ltb q 128 l))
  where
    same : (p : ℕ) → 64 ≤ p → eqb (p - 64) (q - 64) ≡ eqb p q
    same p lp = both_ways
        (λ t. eq-eqb p q (let e = eqb-true (p - 64) (q - 64) t in omega (arith, e, m, lp)))
        (λ t. eq-eqb (p - 64) (q - 64) (let e = eqb-true p q t in omega (arith, e)))

-- a q past both adds nothing
pub with_past : (low high q : ℕ) → 128 ≤ q → (p : ℕ) → in_words low high p ≡ (in_words low high p || (eqb p q && ltb q 128))
with_past low high q l p = rw (le-ltb q 128 l, and-false (eqb p q)) (sym (or-false (in_words low high p)))

-- and is in no set
pub words_past : (low high q : ℕ) → high < 2 ^ 64 → 128 ≤ q → in_words low high q ≡ false
unfolding in_word
words_past low high q h l = high_from low high q (omega (arith, l)) ∙ bit_high 64 high (q - 64) h (omega (arith, l))

-- ---- how many

pub words_count : (low high : ℕ) → low < 2 ^ 64 → high < 2 ^ 64 → ones low + ones high ≡ count 128 (in_words low high)
unfolding in_word
words_count low high l h =
    rw (ones_count 64 low l, ones_count 64 high h)
    (sym (count_joined 64 64 (in_words low high) (in_word high) (high_at low high)
    ∙ ap (λ (x : ℕ). x + count 64 (in_word high)) (count_same 64 (in_words low high) (in_word low) (low_at low high))))

-- ---- one word

-- the words of a set as parts of it
pub low_part : (low high q : ℕ) → in_part 0 low q ≡ (is_part 0 q && in_words low high q)
unfolding in_part
low_part low high q = go (is_part 0 q) refl
  where
    go : (b : Bool) → is_part 0 q ≡ b → (b && in_word low (q % 64)) ≡ (b && in_words low high q)
    go true h =
        let e = eqb-true (q / 64) 0 h in
        let z : q % 64 ≡ q = omega (arith, e) in
        rw z (sym (low_at low high q (omega (arith, e))))
    go false h = refl

pub high_part : (low high q : ℕ) → in_part 1 high q ≡ (is_part 1 q && in_words low high q)
unfolding in_part
high_part low high q = go (is_part 1 q) refl
  where
    go : (b : Bool) → is_part 1 q ≡ b → (b && in_word high (q % 64)) ≡ (b && in_words low high q)
    go true h =
        let e = eqb-true (q / 64) 1 h in
        let z : q % 64 ≡ q - 64 = omega (arith, e) in
        rw z (sym (high_from low high q (omega (arith, e))))
    go false h = refl

-- a word in place of a part, the other part as it was
pub part_low : (word low high q : ℕ) → in_words word high q ≡ cond (is_part 0 q) (in_part 0 word q) (in_words low high q)
part_low word low high q = go (is_part 0 q) refl
  where
    go : (b : Bool) → is_part 0 q ≡ b → in_words word high q ≡ cond b (in_part 0 word q) (in_words low high q)
    go true t = sym (low_part word high q ∙ rw t)
    go false t =
        let m : 64 ≤ q = (let ne = eqb-false (q / 64) 0 t in ⊎_elim (λ (z : q < 64). absurd (ne (omega (arith, z)))) (λ z. z) (lt_or_le q 64)) in
        high_from word high q m ∙ sym (high_from low high q m)

pub part_high : (low word high q : ℕ) → word < 2 ^ 64 → high < 2 ^ 64 → in_words low word q ≡ cond (is_part 1 q) (in_part 1 word q) (in_words low high q)
part_high low word high q k h = go (is_part 1 q) refl
  where
    other : (q / 64 ≡ 1 → ⊥) → in_words low word q ≡ in_words low high q
    other ne =
        ⊎_elim
        (λ (l : q < 64). low_at low word q l ∙ sym (low_at low high q l))
        (λ (l : 64 ≤ q). let m : 128 ≤ q = ⊎_elim (λ (z : q < 128). absurd (ne (omega (arith, z, l)))) (λ z. z) (lt_or_le q 128) in
        words_past low word q k m ∙ sym (words_past low high q h m))
        (lt_or_le q 64)

    go : (b : Bool) → is_part 1 q ≡ b → in_words low word q ≡ cond b (in_part 1 word q) (in_words low high q)
    go true t = sym (high_part low word q ∙ rw t)
    go false t = other (eqb-false (q / 64) 1 t)

-- operations on words
pub part_and : (w a b q : ℕ) → in_part w (bit_and a b) q ≡ (in_part w a q && in_part w b q)
unfolding in_part in_word
part_and w a b q = rw (bit_and_lem a b (q % 64)) (go (is_part w q) (bit a (q % 64)) (bit b (q % 64)))
  where
    go : (c x y : Bool) → (c && (x && y)) ≡ ((c && x) && (c && y))
    go true x y = refl
    go false x y = refl

pub part_or : (w a b q : ℕ) → in_part w (bit_or a b) q ≡ (in_part w a q || in_part w b q)
unfolding in_part in_word
part_or w a b q = rw (bit_or_lem a b (q % 64)) (go (is_part w q) (bit a (q % 64)) (bit b (q % 64)))
  where
    go : (c x y : Bool) → (c && (x || y)) ≡ ((c && x) || (c && y))
    go true x y = refl
    go false x y = refl

pub part_minus : (w a b q : ℕ) → a < 2 ^ 64 → b < 2 ^ 64 → in_part w (bit_and a (2 ^ 64 - 1 - b)) q ≡ (in_part w a q && not (in_part w b q))
unfolding in_part in_word
part_minus w a b q h k = rw (bit_minus 64 a b h k (q % 64)) (go (is_part w q) (bit a (q % 64)) (bit b (q % 64)))
  where
    go : (c x y : Bool) → (c && (x && not y)) ≡ ((c && x) && not (c && y))
    go true x y = refl
    go false x y = refl

-- an empty word, and one that is not
pub part_none : (w q : ℕ) → in_part w 0 q ≡ false
unfolding in_part in_word
part_none w q = rw (bit_empty (q % 64), and-false (is_part w q))
