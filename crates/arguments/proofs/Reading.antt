-- Reading a text digit by digit: the number that stands so far, and the text that is left.
use mathlib.Core.Path.{◌≡◌, refl, sym, ap, ◌∙◌}
use mathlib.Core.Bool.{Bool, true, false, ◌&&◌, false≢true}
use mathlib.Core.List.{List, [], ◌∷◌}
use Prim.Native.Nat.{ℕ, ◌+◌, ◌-◌, ◌*◌, ◌≤◌, ◌<◌, min}
use native.Mathlib.Numerals.{add-one}
use native.Mathlib.Omega.{arith}
use lib.ListN.{length, get_or, drop}
use lib.Seq.{drop-cons, drop-length}
use lib.Dec.{leb}
use borrow.Author.Tests.{lt-ltb, leb-true}
use Rattle.std.proofs.Common.{Some, None}
use Rattle.arguments.specs.Numbers.{is_digit, are_digits, value_from, cap, decimal_of}

-- a number that stands before the text counts up to a cap only
capped : (most n : ℕ) (text : List ℕ) → min (value_from n text) most ≡ min (value_from (min n most) text) most
unfolding value_from
capped most n [] = omega arith
capped most n (byte ∷ text) =
    capped most (10 * n + (byte - 48)) text
    ∙ ap (λ (m : ℕ). min (value_from m text) most) (omega arith)
    ∙ sym (capped most (10 * min n most + (byte - 48)) text)

-- i bytes are read, the number is n, and what is left decides
pub record Reads (text : List ℕ) (i n : ℕ) : Type 0 where
  pub within : i ≤ length text
  pub small : n ≤ cap
  pub digits : are_digits text ≡ are_digits (drop i text)
  pub value : min (value_from 0 text) cap ≡ min (value_from n (drop i text)) cap

pub reads_nothing : (text : List ℕ) → Reads text 0 0
reads_nothing text = record { within = omega arith; small = omega arith; digits = refl; value = refl }

pub digit_least : (byte : ℕ) → is_digit byte ≡ true → 48 ≤ byte
digit_least byte e = go (leb 48 byte) refl e
  where
    go : (l : Bool) → leb 48 byte ≡ l → l && leb byte 57 ≡ true → 48 ≤ byte
    go true l e = leb-true 48 byte l
    go false l e = absurd (false≢true e)

-- the next byte, and what is left behind it
next_byte : (text : List ℕ) (i : ℕ) → i < length text → drop i text ≡ get_or text i 0 ∷ drop (i + 1) text
next_byte text i l = drop-cons text i 0 l ∙ ap (λ (j : ℕ). get_or text i 0 ∷ drop j text) (sym (add-one i))

next_digit : {text : List ℕ} {i n : ℕ} → Reads text i n → i < length text → are_digits text ≡ (is_digit (get_or text i 0) && are_digits (drop (i + 1) text))
unfolding are_digits
next_digit {text} {i} r l = r.digits ∙ ap are_digits (next_byte text i l)

next_value : {text : List ℕ} {i n : ℕ} → Reads text i n → i < length text
    → min (value_from 0 text) cap ≡ min (value_from (min (10 * n + (get_or text i 0 - 48)) cap) (drop (i + 1) text)) cap
unfolding value_from
next_value {text} {i} {n} r l = r.value ∙ ap (λ (t : List ℕ). min (value_from n t) cap) (next_byte text i l) ∙ capped cap _ (drop (i + 1) text)

pub reads_digit : {text : List ℕ} {i n m : ℕ} → Reads text i n → i < length text → is_digit (get_or text i 0) ≡ true → m ≡ min (10 * n + (get_or text i 0 - 48)) cap
    → Reads text (i + 1) m
reads_digit {text} {i} {n} {m} r l d e = record {
  within = omega arith;
  small = omega arith;
  digits = next_digit r l ∙ rw d refl;
  value = next_value r l ∙ rw e refl;
}

-- the text ends before its first byte
pub reads_empty : (text : List ℕ) → length text ≡ 0 → None ≡ decimal_of text
unfolding are_digits decimal_of
reads_empty [] e = refl
reads_empty (byte ∷ text) e = absurd (omega arith)

-- the next byte is no digit
pub reads_other : {text : List ℕ} {i n : ℕ} → Reads text i n → i < length text → is_digit (get_or text i 0) ≡ false → None ≡ decimal_of text
unfolding decimal_of
reads_other {text} {i} r l d = rw (next_digit r l, d) refl

-- nothing is left
pub reads_all : {text : List ℕ} {i n : ℕ} → Reads text i n → 0 < length text → length text ≤ i → Some n ≡ decimal_of text
unfolding are_digits value_from decimal_of
reads_all {text} {i} {n} r l e =
    let at : i ≡ length text = omega (arith, r.within) in
    let end : drop i text ≡ [] = ap (λ (j : ℕ). drop j text) at ∙ drop-length text in
    let d : are_digits text ≡ true = r.digits ∙ ap are_digits end in
    let v : min (value_from 0 text) cap ≡ n = r.value ∙ ap (λ (t : List ℕ). min (value_from n t) cap) end ∙ omega (arith, r.small) in
    rw (d, lt-ltb 0 (length text) l, v) refl
