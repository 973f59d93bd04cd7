-- A test of the numbers below n that grows from round to round, and that has stopped growing once a round adds nothing: after n rounds it has
-- stopped, and after fewer where it passes some number at first.
use mathlib.Core.Path.{◌≡◌, refl, ap, ◌∙◌}
use mathlib.Core.Bool.{Bool, true, false, not, ◌&&◌}
use mathlib.Core.Logic.{◌⊎◌, inl, inr, ⊎_elim}
use Prim.Native.Nat.{ℕ, zero, suc, ◌+◌, ◌≤◌, ◌<◌}
use native.Mathlib.Nat.{add-zero, add-suc}
use native.Mathlib.Omega.{arith}
use borrow.Author.Tests.{not-true}
use Rattle.theory.specs.Below.{any, count}
use Rattle.theory.proofs.Below.{clash, is_true, both_ways, and_left, and_right, and_both, any_at, any_find, count_le, count_more}

module _ (n : ℕ) (grown : ℕ → ℕ → Bool) where
  -- the round after r adds nothing
  abbrev pub Still : ℕ → Type 0
  Still r = (p : ℕ) → p < n → grown (suc r) p ≡ grown r p

  -- the round after r adds p
  abbrev added : ℕ → ℕ → Bool
  added r p = grown (suc r) p && not (grown r p)

  module _ (more : (r p : ℕ) → p < n → grown r p ≡ true → grown (suc r) p ≡ true) (stays : (r : ℕ) → Still r → Still (suc r)) where
    still_or_more : (r : ℕ) → Still r ⊎ (count n (grown r) < count n (grown (suc r)))
    still_or_more r = go (any n (added r)) refl
      where
        go : (b : Bool) → any n (added r) ≡ b → Still r ⊎ (count n (grown r) < count n (grown (suc r)))
        go true e =
            let f = any_find n (added r) e in
            let p = f.0 in
            inr (count_more n (grown r) (grown (suc r)) (more r) p f.1 (not-true (grown r p) (and_right (grown (suc r) p) (not (grown r p)) f.2))
            (and_left (grown (suc r) p) (not (grown r p)) f.2))
        go false e =
            inl (λ p l. both_ways (λ t. is_true
            (λ h. clash (any_at n (added r) p l (and_both (grown (suc r) p) (not (grown r p)) t (ap not h))) e)) (more r p l))

    still_or_many : (r : ℕ) → Still r ⊎ (count n (grown 0) + r < count n (grown (suc r)))
    still_or_many zero = ⊎_elim (λ s. inl s) (λ l. inr (omega (arith, l))) (still_or_more zero)
    still_or_many (suc r) =
        ⊎_elim (λ s. inl (stays r s)) (λ l. ⊎_elim (λ s. inl s) (λ m. inr (omega (arith, l, m))) (still_or_more (suc r))) (still_or_many r)

    module _ (r : ℕ) (enough : n ≤ count n (grown 0) + r) where
      still : Still r
      still = ⊎_elim (λ s. s) (λ l. absurd (omega (arith, l, enough, count_le n (grown (suc r))))) (still_or_many r)

      -- no round after r adds anything
      pub stopped_at : (j p : ℕ) → p < n → grown (r + j) p ≡ grown r p
      stopped_at j p l = (both j).1 p l
        where
          both : (j : ℕ) → Still (r + j) × ((p : ℕ) → p < n → grown (r + j) p ≡ grown r p)
          both zero = rw (add-zero r) (still, λ p l. refl)
          both (suc j) =
              let b = both j in
              rw (add-suc r j) (stays (r + j) b.0, λ p l. b.0 p l ∙ b.1 p l)

    -- no round after n does
    pub stopped : (j p : ℕ) → p < n → grown (n + j) p ≡ grown n p
    stopped = stopped_at n (omega arith)
