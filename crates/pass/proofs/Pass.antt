-- A pass over the pairs of states visits each once, in the order of their numbers.
use mathlib.Core.Path.{◌≡◌, refl, sym, ap, subst, ◌∙◌}
use mathlib.Core.Logic.{⊎_elim}
use Prim.Native.Nat.{ℕ, zero, suc, ◌+◌, ◌*◌, ◌/◌, ◌%◌, ◌≤◌, ◌<◌}
use native.Mathlib.Nat.{add-mul, mul-le-mul_right}
use native.Mathlib.Numerals.{add-one}
use native.Mathlib.Omega.{arith}
use lib.Arith.{digits_lt, digits_div, digits_mod}
use borrow.Author.Tests.{eq-eqb, ne_eqb}
use Rattle.theory.proofs.Below.{lt_or_le}
use Rattle.pass.specs.declared.Position.{Position}
use Rattle.pass.specs.Pass.{start, next, pair}

-- ---- numbers

-- two pairs with the same number are the same
pub row_is : {n q y : ℕ} (p x : ℕ) → q < n → y < n → p * n + q ≡ x * n + y → p ≡ x
row_is {n} p x lq ly e = sym (digits_div p lq) ∙ ap (λ (i : ℕ). i / n) e ∙ digits_div x ly

pub column_is : {n q y : ℕ} (p x : ℕ) → q < n → y < n → p * n + q ≡ x * n + y → q ≡ y
column_is {n} p x lq ly e = sym (digits_mod p lq) ∙ ap (λ (i : ℕ). i % n) e ∙ digits_mod x ly

-- ---- a pass

-- what holds of pair k, also after the last one
record Along (n k : ℕ) (at : Position) : Type 0 where
  numbered : at.row * n + at.column ≡ k
  column_below : at.column < n

along_next : {n k : ℕ} (at : Position) → Along n k at → Along n (suc k) (next n at)
along_next {n} {k} at A =
    let e = A.numbered in
    let l = A.column_below in
    ⊎_elim
    (λ (along : at.column + 1 < n).
    rw (ne_eqb (at.column + 1) n (λ x. omega (arith, x, along))) (record { numbered = omega (arith, e); column_below = along }))
    (λ (ends : n ≤ at.column + 1).
    let last : at.column + 1 ≡ n = omega (arith, l, ends) in
    let m = add-mul at.row 1 n in
    rw (eq-eqb (at.column + 1) n last) (record { numbered = omega (arith, e, m, last); column_below = omega (arith, l) }))
    (lt_or_le (at.column + 1) n)

along : {n : ℕ} → 0 < n → (k : ℕ) → Along n k (pair n k)
unfolding pair
along l zero = record { numbered = omega arith; column_below = l }
along {n} l (suc k) = along_next (pair n k) (along l k)

module _ (n : ℕ) {k : ℕ} (l : k < n * n) where
  some : 0 < n
  some = ⊎_elim (λ (h : 0 < n). h) (λ h. (let z : n ≡ 0 = omega (arith, h) in absurd (let m = rw z at l in omega (arith, m)))) (lt_or_le 0 n)

  here : Along n k (pair n k)
  here = along some k

  -- "row times states plus column equal to k, up to the last pair"
  pub numbered : (pair n k).row * n + (pair n k).column ≡ k
  numbered = here.numbered

  -- row and column are states
  pub column_low : (pair n k).column < n
  column_low = here.column_below

  pub row_low : (pair n k).row < n
  row_low =
      ⊎_elim (λ (h : (pair n k).row < n). h)
      (λ h. absurd (let m = mul-le-mul_right n h in let e = here.numbered in omega (arith, m, e, l)))
      (lt_or_le (pair n k).row n)

-- the number that walks along is k
pub count : (n k : ℕ) → (pair n k).number ≡ k
unfolding pair
count n zero = refl
count n (suc k) = (let e = count n k in omega (arith, e))

-- after the last pair n rows are done
over : (n : ℕ) → (pair n (n * n)).row ≡ n
unfolding pair
over n =
    ⊎_elim
    (λ (h : 0 < n). (let A = along h (n * n) in row_is _ n A.column_below h (let e = A.numbered in omega (arith, e))))
    (λ h. (let z : n ≡ 0 = omega (arith, h) in rw z refl))
    (lt_or_le 0 n)

-- every pair of states is visited
pub visited : {n p q : ℕ} → p < n → q < n → (k : ℕ) × (k < n * n) × ((pair n k).row ≡ p) × ((pair n k).column ≡ q)
visited {n} {p} {q} lp lq =
    let l = digits_lt lp lq in
    (p * n + q, l, row_is _ p (column_low n l) lq (numbered n l), column_is _ p (column_low n l) lq (numbered n l))

-- ---- the pair that a pass is at

pub record On (n : ℕ) (at : Position) : Type 0 where
  pub is : at ≡ pair n at.number

pub on_start : {n : ℕ} → On n start
unfolding pair
on_start = record { is = refl }

module _ {n : ℕ} {at : Position} (o : On n at) where
  -- the step leads to the pair with the next number
  pub on_next : next n at ≡ pair n (at.number + 1)
  unfolding pair
  on_next = ap (next n) o.is ∙ rw (add-one at.number)

  pub on_over : at.number ≡ n * n → at.row ≡ n
  on_over e = ap (λ (x : Position). x.row) o.is ∙ rw e (over n)

  module _ (l : at.number < n * n) where
    pub on_numbered : at.row * n + at.column ≡ at.number
    on_numbered = subst (λ (x : Position). x.row * n + x.column ≡ at.number) (sym o.is) (numbered n l)

    pub on_row : at.row < n
    on_row = subst (λ (x : Position). x.row < n) (sym o.is) (row_low n l)

    pub on_column : at.column < n
    on_column = subst (λ (x : Position). x.column < n) (sym o.is) (column_low n l)
