-- Numbers of several bytes, and what an entry says.
use mathlib.Core.Path.{◌≡◌, refl, sym, ap, ap₂, ◌∙◌}
use mathlib.Core.List.{List, ◌++◌}
use mathlib.Core.Logic.{⊎_elim}
use Prim.Native.Nat.{ℕ, zero, suc, ◌+◌, ◌*◌, ◌-◌, ◌≤◌, ◌<◌}
use native.Mathlib.Nat.{add-suc}
use native.Mathlib.Omega.{arith}
use lib.ListN.{length, get_or, take, drop, replicate, length-take, length-drop, get_or-append, get_or-eq_default}
use lib.Seq.{get_or-drop, get_or-take, get_or-append_right}
use lib.Dec.{ltb}
use Rattle.std.proofs.lemmas.List.{get_or-replicate}
use borrow.Author.Tests.{lt-ltb, eq-eqb, ne_eqb}
use Rattle.std.specs.Int.{w16, w32, from_le_bytes}
use Rattle.theory.proofs.Below.{lt_or_le}
use Rattle.collection.specs.Contents.{number_at, count_of, entry_of, offset_of, length_of, start_of_body, rises}

-- ---- a number further on, and one of a part

pub number_drop : (w m : ℕ) (l : List ℕ) (at : ℕ) → number_at w (drop m l) at ≡ number_at w l (m + at)
number_drop zero m l at = refl
number_drop (suc w) m l at =
    ap₂ (λ (a b : ℕ). a + 256 * b) (get_or-drop m l at 0) (number_drop w m l (suc at) ∙ ap (number_at w l) (add-suc m at))

number_take : (w n : ℕ) (l : List ℕ) (at : ℕ) → at + w ≤ n → number_at w (take n l) at ≡ number_at w l at
number_take zero n l at h = refl
number_take (suc w) n l at h =
    ap₂ (λ (a b : ℕ). a + 256 * b) (get_or-take n l at 0 (omega (arith, h))) (number_take w n l (suc at) (omega (arith, h)))

-- ---- bytes of a file, 0 for those past the end

pub padded : (n m : ℕ) (l : List ℕ) {part bytes : List ℕ} → part ≡ take n (drop m l) → bytes ≡ part ++ drop (length part) (replicate n 0)
    → (i : ℕ) → i < n → get_or bytes i 0 ≡ get_or l (m + i) 0
padded n m l {part} {bytes} e f i h = ⊎_elim there missing (lt_or_le i (length part))
  where
    there : i < length part → get_or bytes i 0 ≡ get_or l (m + i) 0
    there b = rw (f) (get_or-append part _ 0 i b ∙ rw (e) (get_or-take n (drop m l) i 0 h ∙ get_or-drop m l i 0))

    missing : length part ≤ i → get_or bytes i 0 ≡ get_or l (m + i) 0
    missing b =
        let end : length l ≤ m + i = omega (arith, ap length e, length-take n (drop m l), length-drop m l) in
        rw (f) (get_or-append_right part _ i 0 b
        ∙ get_or-drop (length part) (replicate n 0) (i - length part) 0
        ∙ get_or-replicate n (length part + (i - length part)) 0 0 (omega arith)
        ∙ sym (get_or-eq_default l 0 end))

-- the numbers that are read from them
module _ (l : List ℕ) (m : ℕ) (bytes : List ℕ) where
  byte_read : {w : ℕ} → ((i : ℕ) → i < w → get_or bytes i 0 ≡ get_or l (m + i) 0)
      → (i at : ℕ) → i < w → m + i ≡ at → get_or bytes i 0 ≡ get_or l at 0
  byte_read same i at h e = same i h ∙ ap (λ (j : ℕ). get_or l j 0) e

  pub two_read : ((i : ℕ) → i < 2 → get_or bytes i 0 ≡ get_or l (m + i) 0) → {n : ℕ} → n ≡ from_le_bytes w16 bytes → n ≡ number_at 2 l m
  two_read same e = omega (arith, byte_read same 0 m (omega arith) (omega arith), byte_read same 1 (suc m) (omega arith) (omega arith))

  pub four_read : ((i : ℕ) → i < 4 → get_or bytes i 0 ≡ get_or l (m + i) 0) → {n : ℕ} → n ≡ from_le_bytes w32 bytes → n ≡ number_at 4 l m
  four_read same e =
      omega (
        arith,
        byte_read same 0 m (omega arith) (omega arith),
        byte_read same 1 (suc m) (omega arith) (omega arith),
        byte_read same 2 (suc (suc m)) (omega arith) (omega arith),
        byte_read same 3 (suc (suc (suc m))) (omega arith) (omega arith),
      )

module _ (file : List ℕ) (i : ℕ) where
  pub entry_there : {c : ℕ} → c ≡ count_of file → i < c → take 8 (drop (2 + 8 * i) file) ≡ entry_of file i
  entry_there {c} e h = (let g : i < count_of file = omega (arith, e, h) in rw (lt-ltb i (count_of file) g))

  -- a number of an entry that is there
  pub entry_number : {c n from : ℕ} → c ≡ count_of file → i < c → (w at : ℕ) → at + w ≤ 8 → n ≡ number_at w file from → from ≡ 2 + 8 * i + at
      → n ≡ number_at w (entry_of file i) at
  entry_number e h w at l f g =
      f ∙ ap (number_at w file) g
      ∙ sym (number_drop w (2 + 8 * i) file at)
      ∙ sym (number_take w 8 (drop (2 + 8 * i) file) at l)
      ∙ ap (λ (bytes : List ℕ). number_at w bytes at) (entry_there e h)

  pub starts_first : {c : ℕ} → c ≡ count_of file → i ≡ 0 → 2 + 8 * c ≡ start_of_body file i
  starts_first c e = rw (eq-eqb i 0 e, c)

  pub starts_later : (i ≡ 0 → ⊥) → {a b : ℕ} → a ≡ offset_of file (i - 1) → b ≡ length_of file (i - 1) → a + b ≡ start_of_body file i
  starts_later h e f = rw (ne_eqb i 0 h, e, f)

-- of rule numbers, wherever they stand
module _ (rule : ℕ → ℕ) (i : ℕ) where
  pub rises_later : (i ≡ 0 → ⊥) → {a b : ℕ} → a ≡ rule (i - 1) → b ≡ rule i → ltb a b ≡ rises rule i
  rises_later h e f = rw (ne_eqb i 0 h, e, f)
