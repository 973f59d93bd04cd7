-- Numbers and their bytes: one is read from the other, both ways.
use mathlib.Core.Path.{◌≡◌, refl, sym, ap, ap₂, ◌∙◌}
use mathlib.Core.List.{List, [], ◌∷◌, ◌++◌}
use mathlib.Core.Logic.{⊎_elim}
use Prim.Native.Nat.{ℕ, zero, suc, ◌+◌, ◌*◌, ◌/◌, ◌%◌, ◌≤◌, ◌<◌}
use native.Mathlib.Nat.{add-zero, le_of_suc-le-suc, not-suc-le-zero}
use native.Mathlib.Omega.{arith}
use lib.ListN.{length, get_or, take, drop, length-take, length-drop, take-append-drop, get_or-eq_default}
use lib.Seq.{get_or-drop, get_or-take, drop-drop, take_all}
use Rattle.theory.proofs.Below.{lt_or_le}
use Rattle.collection.specs.Contents.{number_at}
use Rattle.collection.proofs.Entries.{number_drop}
use Rattle.writer.specs.Encoding.{bytes_of, entry_bytes}
use Rattle.writer.specs.Reading.{Bytes}

number_cons : (w x : ℕ) (l : List ℕ) (at : ℕ) → number_at w (x ∷ l) (suc at) ≡ number_at w l at
number_cons zero x l at = refl
number_cons (suc w) x l at = ap (λ (n : ℕ). get_or l at 0 + 256 * n) (number_cons w x l (suc at))

-- ---- from the bytes to the number

-- the number has no more than w bytes
abbrev pub Short : ℕ → ℕ → Type 0
Short zero n = n ≡ 0
Short (suc w) n = Short w (n / 256)

pub number_back : (w n : ℕ) (rest : List ℕ) → Short w n → number_at w (bytes_of w n ++ rest) 0 ≡ n
number_back zero n rest h = sym h
number_back (suc w) n rest h =
    let e = number_cons w (n % 256) (bytes_of w (n / 256) ++ rest) 0 ∙ number_back w (n / 256) rest h in
    ap (λ (m : ℕ). n % 256 + 256 * m) e ∙ omega arith

-- ---- from the number to the bytes

pub bytes_drop : (m : ℕ) (l : List ℕ) → Bytes l → Bytes (drop m l)
bytes_drop m l b i = rw (get_or-drop m l i 0) (b (m + i))

pub bytes_take : (m : ℕ) (l : List ℕ) → Bytes l → Bytes (take m l)
bytes_take m l b i =
    ⊎_elim (λ h. rw (get_or-take m l i 0 h) (b i))
    (λ h. (let e = get_or-eq_default (take m l) 0 {n = i} (omega (arith, length-take m l, h)) in omega (arith, e)))
    (lt_or_le i m)

bytes_first : (w : ℕ) (l : List ℕ) → w ≤ length l → Bytes l → bytes_of w (number_at w l 0) ≡ take w l
bytes_first zero l h b = refl
bytes_first (suc w) [] h b = absurd (not-suc-le-zero h)
bytes_first (suc w) (x ∷ l) h b =
    let n = number_at w l 0 in
    let x_small : x < 256 = b 0 in
    let low : (x + 256 * n) % 256 ≡ x = omega (arith, x_small) in
    let high : (x + 256 * n) / 256 ≡ n = omega (arith, x_small) in
    ap (λ (m : ℕ). bytes_of (suc w) (x + 256 * m)) (number_cons w x l 0)
    ∙ ap₂ (λ (a m : ℕ). a ∷ bytes_of w m) low high
    ∙ ap (λ (r : List ℕ). x ∷ r) (bytes_first w l (le_of_suc-le-suc h) (λ i. b (suc i)))

pub bytes_back : (w at : ℕ) (l : List ℕ) → at + w ≤ length l → Bytes l → bytes_of w (number_at w l at) ≡ take w (drop at l)
bytes_back w at l h b =
    ap (bytes_of w) (ap (number_at w l) (sym (add-zero at)) ∙ sym (number_drop w at l 0))
    ∙ bytes_first w (drop at l) (omega (arith, h, length-drop at l)) (bytes_drop at l b)

-- eight bytes are the entry of the numbers in them
pub entry_back : (e : List ℕ) → length e ≡ 8 → Bytes e → entry_bytes (number_at 4 e 0) (number_at 2 e 4) (number_at 2 e 6) ≡ e
entry_back e l b =
    let last : take 2 (drop 6 e) ≡ drop 2 (drop 4 e) = take_all 2 (drop 6 e) (omega (arith, l, length-drop 6 e)) ∙ sym (drop-drop 2 4 e) in
    let behind = ap₂ (λ (x y : List ℕ). x ++ y) (bytes_back 2 4 e (omega (arith, l)) b) (bytes_back 2 6 e (omega (arith, l)) b ∙ last) in
    ap₂ (λ (x y : List ℕ). x ++ y) (bytes_back 4 0 e (omega (arith, l)) b) (behind ∙ take-append-drop 2 (drop 4 e)) ∙ take-append-drop 4 e
