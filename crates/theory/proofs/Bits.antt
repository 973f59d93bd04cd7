-- The binary digits of a word, as tests: what the code's operations on words do to them.
use mathlib.Core.Path.{◌≡◌, refl, sym, ap, ◌∙◌}
use mathlib.Core.Bool.{Bool, true, false, cond, not, ◌&&◌, ◌||◌, and-true}
use mathlib.Core.Logic.{◌⊎◌, inl, inr}
use Prim.Native.Nat.{ℕ, zero, suc, ◌+◌, ◌-◌, ◌*◌, ◌/◌, ◌%◌, ◌^◌, ◌≤◌, ◌<◌, suc-le-suc, min, max}
use native.Mathlib.Nat.{mod-lt, zero-lt-suc, zero-div, div-one, div-div-eq-div-mul, div-eq_of_lt, pow-suc, pow-succ', lt_of_lt_of_le, not-suc-le-zero}
use native.Mathlib.Nat.{le_of_suc-le-suc, one-mul}
use native.Mathlib.Omega.{arith}
use lib.Dec.{eqb, ltb, eqb-zero-suc, eqb-suc-zero, eqb-suc-suc, lit<}
use lib.Bits.{bit_and, bit_or, and_step, or_step, and_shr, or_shr, and_mask}
use lib.Count.{ones, ones_step, count_trailing_zeros, under}
use lib.Pow.{pow_mono, shl_exact}
use borrow.Author.Tests.{lt-ltb}
use Rattle.theory.specs.Below.{count, first}
use Rattle.theory.proofs.Below.{lt_or_le, count_from_lem, first_from}

-- the last digit of m is set
abbrev odd : ℕ → Bool
odd m = eqb (m % 2) 1

-- digit i of m is set
abbrev pub bit : ℕ → ℕ → Bool
bit m i = odd (m / 2 ^ i)

-- ---- one digit

data Digit : ℕ → Type 0 where
  off : Digit 0
  on : Digit 1

digit : (m : ℕ) → Digit (m % 2)
digit m = go (m % 2) (mod-lt m (zero-lt-suc 1))
  where
    go : (d : ℕ) → d < 2 → Digit d
    go zero l = off
    go (suc zero) l = on
    go (suc (suc d)) l = absurd (omega arith)

or_digit : {d e : ℕ} → Digit d → Digit e → eqb (max d e) 1 ≡ (eqb d 1 || eqb e 1)
or_digit off off = refl
or_digit off on = refl
or_digit on off = refl
or_digit on on = refl

and_digit : {d e : ℕ} → Digit d → Digit e → eqb (min d e) 1 ≡ (eqb d 1 && eqb e 1)
and_digit off off = refl
and_digit off on = refl
and_digit on off = refl
and_digit on on = refl

not_digit : {d : ℕ} → Digit d → eqb (1 - d) 1 ≡ not (eqb d 1)
not_digit off = refl
not_digit on = refl

add_digit : {d : ℕ} → Digit d → (n : ℕ) → d + n ≡ cond (eqb d 1) (suc n) n
add_digit off n = omega arith
add_digit on n = omega arith

under_digit : {d : ℕ} → Digit d → (n : ℕ) → under d n ≡ cond (eqb d 1) 0 (suc n)
under_digit off n = refl
under_digit on n = refl

-- ---- the digits of m are its last one, and those of m / 2

bit_zero : (m : ℕ) → bit m 0 ≡ odd m
bit_zero m = ap odd (div-one m)

bit_suc : (m i : ℕ) → bit m (suc i) ≡ bit (m / 2) i
bit_suc m i = ap odd (ap (λ (x : ℕ). m / x) (pow-succ' 2 i) ∙ sym (div-div-eq-div-mul m 2 (2 ^ i)))

pub bit_empty : (i : ℕ) → bit 0 i ≡ false
bit_empty i = ap odd (zero-div (2 ^ i))

-- a word of k digits has none at or past k
pub bit_high : (k m i : ℕ) → m < 2 ^ k → k ≤ i → bit m i ≡ false
bit_high k m i h l = ap odd (div-eq_of_lt (lt_of_lt_of_le h (pow_mono l)))

-- ---- the operations

pub bit_or_lem : (a b i : ℕ) → bit (bit_or a b) i ≡ (bit a i || bit b i)
bit_or_lem a b i = ap odd (or_shr a b i) ∙ last (a / 2 ^ i) (b / 2 ^ i)
  where
    last : (x y : ℕ) → odd (bit_or x y) ≡ (odd x || odd y)
    last x y = (let e : bit_or x y % 2 ≡ max (x % 2) (y % 2) = omega (arith, or_step x y) in rw e (or_digit (digit x) (digit y)))

pub bit_and_lem : (a b i : ℕ) → bit (bit_and a b) i ≡ (bit a i && bit b i)
bit_and_lem a b i = ap odd (and_shr a b i) ∙ last (a / 2 ^ i) (b / 2 ^ i)
  where
    last : (x y : ℕ) → odd (bit_and x y) ≡ (odd x && odd y)
    last x y = (let e : bit_and x y % 2 ≡ min (x % 2) (y % 2) = omega (arith, and_step x y) in rw e (and_digit (digit x) (digit y)))

-- `!x` on words of k digits
pub bit_not : (k x i : ℕ) → x < 2 ^ k → i < k → bit (2 ^ k - 1 - x) i ≡ not (bit x i)
bit_not zero x i h l = absurd (not-suc-le-zero l)
bit_not (suc k) x zero h l = rw (bit_zero (2 ^ suc k - 1 - x), bit_zero x, last) (not_digit (digit x))
  where
    last : (2 ^ suc k - 1 - x) % 2 ≡ 1 - x % 2
    last = omega (arith, pow-suc 2 k)
bit_not (suc k) x (suc i) h l = rw (bit_suc (2 ^ suc k - 1 - x) i, bit_suc x i, rest) (bit_not k (x / 2) i (omega (arith, pow-suc 2 k)) (le_of_suc-le-suc l))
  where
    rest : (2 ^ suc k - 1 - x) / 2 ≡ 2 ^ k - 1 - x / 2
    rest = omega (arith, pow-suc 2 k)

-- `a & !b` on words of k digits
pub bit_minus : (k a b : ℕ) → a < 2 ^ k → b < 2 ^ k → (i : ℕ) → bit (bit_and a (2 ^ k - 1 - b)) i ≡ (bit a i && not (bit b i))
bit_minus k a b g h i = bit_and_lem a (2 ^ k - 1 - b) i ∙ go (lt_or_le i k)
  where
    go : (i < k) ⊎ (k ≤ i) → (bit a i && bit (2 ^ k - 1 - b) i) ≡ (bit a i && not (bit b i))
    go (inl l) = ap (λ (x : Bool). bit a i && x) (bit_not k b i h l)
    go (inr l) = rw (bit_high k a i g l)

bit_power : (q p : ℕ) → bit (2 ^ q) p ≡ eqb p q
bit_power zero zero = refl
bit_power zero (suc p) = bit_suc 1 p ∙ bit_empty p ∙ sym (eqb-suc-zero p)
bit_power (suc q) zero = rw (bit_zero (2 ^ suc q), last) (sym (eqb-zero-suc q))
  where
    last : 2 ^ suc q % 2 ≡ 0
    last = omega (arith, pow-suc 2 q)
bit_power (suc q) (suc p) = rw (bit_suc (2 ^ suc q) p, rest, eqb-suc-suc p q) (bit_power q p)
  where
    rest : 2 ^ suc q / 2 ≡ 2 ^ q
    rest = omega (arith, pow-suc 2 q)

-- `1 << q` on words of k digits
pub bit_one : (k q : ℕ) → q < k → (p : ℕ) → bit ((1 * 2 ^ q) % 2 ^ k) p ≡ eqb p q
bit_one k q l p = ap (λ (x : ℕ). bit x p) (shl_exact {a = 1} 1 q k (lit< tt) (omega arith) ∙ one-mul (2 ^ q)) ∙ bit_power q p

-- `m | (1 << q)`
pub bit_with : (k m q : ℕ) → q < k → (p : ℕ) → bit (bit_or m ((1 * 2 ^ q) % 2 ^ k)) p ≡ (bit m p || (eqb p q && ltb q k))
bit_with k m q l p =
    bit_or_lem m ((1 * 2 ^ q) % 2 ^ k) p ∙ ap (λ (x : Bool). bit m p || x) (bit_one k q l p ∙ rw (lt-ltb q k l, and-true))

-- `(m >> q) & 1`
pub bit_read : (m q : ℕ) → eqb (bit_and (m / 2 ^ q) 1) 1 ≡ bit m q
bit_read m q = ap (λ (x : ℕ). eqb x 1) (and_mask (m / 2 ^ q) 1)

-- ---- how many, and which is the lowest

pub ones_count : (k m : ℕ) → m < 2 ^ k → ones m ≡ count k (bit m)
unfolding count ones
ones_count zero m h = (let e : m ≡ 0 = omega arith in ap ones e)
ones_count (suc k) m h =
    ones_step m
    ∙ ap (λ (x : ℕ). m % 2 + x) (ones_count k (m / 2) (omega (arith, pow-suc 2 k)))
    ∙ add_digit (digit m) (count k (bit (m / 2)))
    ∙ sym (count_from_lem k (bit m) (bit (m / 2)) (bit_suc m) ∙ rw (bit_zero m))

pub zeros_first : (k m : ℕ) → count_trailing_zeros k m ≡ first (bit m) 0 k
unfolding count_trailing_zeros first
zeros_first zero m = refl
zeros_first (suc k) m =
    ap (under (m % 2)) (zeros_first k (m / 2))
    ∙ under_digit (digit m) (first (bit (m / 2)) 0 k)
    ∙ sym (rw (bit_zero m, first_from (bit m) (bit (m / 2)) (bit_suc m) 0 k))

-- a word that is not 0 has a lowest digit
pub zeros_less : (k m : ℕ) → m < 2 ^ k → 0 < m → count_trailing_zeros k m < k
unfolding count_trailing_zeros
zeros_less zero m h l = absurd (omega arith)
zeros_less (suc k) m h l = go (digit m) refl (zeros_less k (m / 2) (omega (arith, pow-suc 2 k)))
  where
    go : {d : ℕ} → Digit d → m % 2 ≡ d → (0 < m / 2 → count_trailing_zeros k (m / 2) < k) → under d (count_trailing_zeros k (m / 2)) < suc k
    go on e less = omega arith
    go off e less = suc-le-suc (less (omega (arith, e)))

-- the digits of m and of m - 1: the lowest of m, and no other, is taken out
lowest_out : (k m : ℕ) → m < 2 ^ k → 0 < m → (p : ℕ) → (bit m p && bit (m - 1) p) ≡ (bit m p && not (eqb p (count_trailing_zeros k m)))
unfolding count_trailing_zeros
lowest_out zero m h l p = absurd (omega arith)
lowest_out (suc k) m h l zero = rw (bit_zero m, bit_zero (m - 1)) (go (digit m) refl)
  where
    go : {d : ℕ} → Digit d → m % 2 ≡ d → (odd m && odd (m - 1)) ≡ (odd m && not (eqb 0 (under (m % 2) (count_trailing_zeros k (m / 2)))))
    go on e = (let z : (m - 1) % 2 ≡ 0 = omega (arith, e) in rw (e, z))
    go off e = rw e
lowest_out (suc k) m h l (suc p) = rw (bit_suc m p, bit_suc (m - 1) p) (go (digit m) refl (lowest_out k (m / 2) (omega (arith, pow-suc 2 k))))
  where
    go : {d : ℕ} → Digit d → m % 2 ≡ d
        → (0 < m / 2 → (p : ℕ) → (bit (m / 2) p && bit (m / 2 - 1) p) ≡ (bit (m / 2) p && not (eqb p (count_trailing_zeros k (m / 2)))))
        → (bit (m / 2) p && bit ((m - 1) / 2) p) ≡ (bit (m / 2) p && not (eqb (suc p) (under (m % 2) (count_trailing_zeros k (m / 2)))))
    go on e rest = (let z : (m - 1) / 2 ≡ m / 2 = omega (arith, e) in rw (e, z, eqb-suc-zero p) (twice (bit (m / 2) p)))
      where
        twice : (b : Bool) → (b && b) ≡ (b && true)
        twice true = refl
        twice false = refl
    go off e rest =
        let z : (m - 1) / 2 ≡ m / 2 - 1 = omega (arith, e, l) in
        rw (e, z, eqb-suc-suc p (count_trailing_zeros k (m / 2))) (rest (omega (arith, e, l)) p)

-- `m & (m - 1)`
pub bit_lowest_out : (k m : ℕ) → m < 2 ^ k → 0 < m → (p : ℕ) → bit (bit_and m (m - 1)) p ≡ (bit m p && not (eqb p (count_trailing_zeros k m)))
bit_lowest_out k m h l p = bit_and_lem m (m - 1) p ∙ lowest_out k m h l p
