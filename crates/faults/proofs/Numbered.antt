-- The fault set that a number stands for, built rank by rank from the bits of the number.
use mathlib.Core.Path.{◌≡◌, sym, ap, ◌∙◌}
use mathlib.Core.Bool.{true, false}
use Prim.Native.Nat.{ℕ, ◌+◌, ◌*◌, ◌/◌, ◌%◌, ◌^◌, ◌≤◌}
use native.Mathlib.Nat.{mod-lt, mod-one, one-mul, zero-lt-suc, le_antisymm, add_comm}
use native.Mathlib.Omega.{arith}
use lib.Bits.{bit_or, or_shifted_r}
use lib.Pow.{pow_pos, mod-pow-add}
use borrow.Author.Tests.{eqb-true, eqb-false}
use Rattle.theory.specs.Faults.{kinds, holds}
use Rattle.faults.specs.Kinds.{set_of}

-- the bits of the number below this rank, and no other
abbrev pub Below : ℕ → ℕ → ℕ → Type 0
Below number rank bits = bits ≡ number % 2 ^ rank

module _ (number rank : ℕ) {bits : ℕ} (below : Below number rank bits) where
  more : number % 2 ^ (rank + 1) ≡ (number / 2 ^ rank % 2) * 2 ^ rank + number % 2 ^ rank
  more = ap (λ (j : ℕ). number % 2 ^ j) (add_comm rank 1) ∙ mod-pow-add number 1 rank

  pub below_with : holds number rank ≡ true → Below number (rank + 1) (bit_or bits (2 ^ rank))
  below_with h =
      ap (λ (x : ℕ). bit_or bits x) (sym (one-mul (2 ^ rank)))
      ∙ or_shifted_r 1 rank bits (rw below (mod-lt number (pow_pos rank)))
      ∙ rw (below, more, eqb-true (number / 2 ^ rank % 2) 1 h)

  pub below_without : holds number rank ≡ false → Below number (rank + 1) bits
  below_without h =
      let n = eqb-false (number / 2 ^ rank % 2) 1 h in
      let z : number / 2 ^ rank % 2 ≡ 0 = omega (arith, n, mod-lt (number / 2 ^ rank) (zero-lt-suc 1)) in
      below ∙ rw (more, z) (omega arith)

  pub below_all : rank ≤ kinds → kinds ≤ rank → bits ≡ set_of number
  below_all h m = below ∙ ap (λ (j : ℕ). number % 2 ^ j) (le_antisymm h m)

pub below_none : (number : ℕ) {bits : ℕ} → bits ≡ 0 → Below number 0 bits
below_none number e = e ∙ sym (mod-one number)
