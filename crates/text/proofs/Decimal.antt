-- The fewest digits that hold a number are its decimal; how many a number has at most.
use mathlib.Core.Path.{◌≡◌, refl, subst, ◌∙◌}
use mathlib.Core.Bool.{Bool, true, false, cond}
use mathlib.Core.List.{[], ◌∷◌, ◌++◌}
use mathlib.Core.Logic.{⊎_elim}
use Prim.Native.Nat.{ℕ, zero, suc, ◌+◌, ◌-◌, ◌/◌, ◌%◌, ◌^◌, ◌≤◌, ◌<◌}
use native.Mathlib.Nat.{pow-succ', pow-le-pow_right, mod-eq_of_lt, mod-lt, div-lt_iff_lt-mul, le-div_iff_mul-le}
use native.Mathlib.Omega.{arith}
use lib.ListN.{length, length-append}
use lib.Dec.{ltb}
use borrow.Author.Tests.{lt-ltb, le-ltb}
use Rattle.theory.proofs.Below.{lt_or_le}
use Rattle.io.specs.Digits.{hex_digit_ascii, last_digits, IsDigitCount}
use Rattle.text.specs.Text.{decimal_in, decimal}

glyph_is : (d : ℕ) → d < 10 → hex_digit_ascii d ≡ 48 + d
glyph_is d h = rw (lt-ltb d 10 h)

grows : (k : ℕ) → k < 10 ^ k
grows zero = omega arith
grows (suc k) = omega (arith, grows k, pow-succ' 10 k)

-- k + 1 digits and no fewer hold n
digits_are : (width k n : ℕ) → suc k ≤ width → n < 10 ^ suc k → (0 < k → 10 ^ k ≤ n) → last_digits 10 (suc k) n ≡ decimal_in width n
digits_are zero k n l h g = absurd (omega (arith, l))
digits_are (suc w) zero n l h g =
    let s : n < 10 = h in
    rw (mod-eq_of_lt s, glyph_is n s, lt-ltb n 10 s)
digits_are (suc w) (suc k) n l h g =
    let p = pow-succ' 10 k in
    let b : 10 ≤ n = omega (arith, p, g (omega arith), grows k) in
    let r = digits_are w k (n / 10) (omega (arith, l)) ((div-lt_iff_lt-mul (omega arith)).1 (omega (arith, h, pow-succ' 10 (suc k))))
    (λ _. (le-div_iff_mul-le (omega arith)).1 (omega (arith, p, g (omega arith)))) in
    rw (r, glyph_is (n % 10) (mod-lt n (omega arith)), le-ltb n 10 b)

pub decimal_is : (n k : ℕ) → IsDigitCount 10 1 n k → last_digits 10 k n ≡ decimal n
decimal_is n zero f = absurd (omega (arith, f.0))
decimal_is n (suc zero) f = digits_are (suc n) 0 n (omega arith) f.1 (λ h. absurd (omega arith))
decimal_is n (suc (suc k)) f =
    let e : suc (suc k) - 1 ≡ suc k = omega arith in
    let g : 10 ^ suc k ≤ n = subst (λ (i : ℕ). 10 ^ i ≤ n) e (f.2 (omega arith)) in
    digits_are (suc n) (suc k) n (omega (arith, grows (suc k), g)) f.1 (λ _. g)

pub digits_length : (b k n : ℕ) → length (last_digits b k n) ≡ k
digits_length b zero n = refl
digits_length b (suc k) n = length-append (last_digits b k (n / b)) _ ∙ (let e = digits_length b k (n / b) in omega (arith, e))

-- a number of 64 bits has at most 20 digits
pub fewest_short : (n k : ℕ) → n < 18446744073709551616 → IsDigitCount 10 1 n k → k ≤ 20
fewest_short n k h f =
    ⊎_elim
    (λ (s : 20 < k). (let g = f.2 (omega arith) in let p = pow-le-pow_right {n = 10} (omega arith) {i = 20} {j = k - 1} (omega (arith, s)) in
    absurd (omega (arith, g, p, h))))
    (λ (s : k ≤ 20). s)
    (lt_or_le 20 k)

digits_few : (width k n : ℕ) → n < 10 ^ suc k → length (decimal_in width n) ≤ suc k
digits_few zero k n h = omega arith
digits_few (suc w) zero n h = (let s : n < 10 = h in rw (lt-ltb n 10 s) (omega arith))
digits_few (suc w) (suc k) n h =
    go (ltb n 10) (digits_few w k (n / 10) ((div-lt_iff_lt-mul (omega arith)).1 (omega (arith, h, pow-succ' 10 (suc k)))))
  where
    go : (b : Bool) → length (decimal_in w (n / 10)) ≤ suc k → length (cond b ((48 + n) ∷ []) (decimal_in w (n / 10) ++ ((48 + n % 10) ∷ []))) ≤ suc (suc k)
    go true few = omega arith
    go false few = omega (arith, length-append (decimal_in w (n / 10)) ((48 + n % 10) ∷ []), few)

-- a number below ten to the k + 1 has at most k + 1 digits
pub decimal_short : (k n : ℕ) → n < 10 ^ suc k → length (decimal n) ≤ suc k
decimal_short k n h = digits_few (suc n) k n h

-- a number of 64 bits has at most 20
pub decimal_fits : (n k : ℕ) → n < 18446744073709551616 → IsDigitCount 10 1 n k → length (decimal n) ≤ 20
decimal_fits n k h f = rw (← decimal_is n k f, digits_length 10 k n) (fewest_short n k h f)
