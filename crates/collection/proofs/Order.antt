-- The search for the first entry that fails a test, among as many entries as were counted.
use mathlib.Core.Path.{◌≡◌, sym, ap, ◌∙◌}
use mathlib.Core.Bool.{Bool, true, false, not}
use Prim.Native.Nat.{ℕ, ◌≤◌, ◌<◌, zero-le}
use native.Mathlib.Nat.{zero-add}
use native.Mathlib.Omega.{arith}
use lib.Dec.{eqb}
use borrow.Author.Tests.{not-false}
use Rattle.theory.proofs.Below.{first_is, first_none}
use Rattle.monitor.proofs.Body.{less_apart, all_passed}
use Rattle.collection.specs.Contents.{first_no}

-- all of c entries pass a test exactly if none fails it first
pub passes_at : (test : ℕ → Bool) (c : ℕ) → first_no test c ≡ c → (i : ℕ) → i < c → test i ≡ true
passes_at test c e i h =
    let none = first_none (λ j. not (test j)) 0 c i (e ∙ sym (zero-add c)) zero-le (omega (arith, h)) in
    not-false (test i) none

pub all_pass : (test : ℕ → Bool) (c : ℕ) → ((i : ℕ) → i < c → test i ≡ true) → first_no test c ≡ c
all_pass test c h = first_is (λ j. not (test j)) c 0 c zero-le (omega arith) (λ j _ l. ap not (h j l)) (λ l. absurd (omega (arith, l)))

module _ (test : ℕ → Bool) {n count r : ℕ} (e : n ≡ count) (f : r ≡ first_no test n) where
  pub found_at : first_no test count ≡ r
  found_at = rw (← e) (sym f)

  pub found_one : r < n → eqb (first_no test count) count ≡ false
  found_one l = rw (← e, ← f) (less_apart l)

  pub found_none : n ≤ r → eqb (first_no test count) count ≡ true
  found_none l = rw (← e, ← f) (all_passed _ f l)
