-- The test of question 8 at a place in row q.
use mathlib.Core.Path.{◌≡◌, refl}
use mathlib.Core.Bool.{Bool, true, false, not, ◌&&◌}
use mathlib.Core.List.{List}
use Prim.Native.Nat.{ℕ, ◌+◌, ◌*◌, ◌≤◌, ◌<◌}
use native.Mathlib.Nat.{le_refl}
use native.Mathlib.Omega.{arith}
use lib.ListN.{get_or}
use lib.Dec.{eqb}
use borrow.Author.Tests.{eq-eqb, ne_eqb, eqb-true, not-false}
use Rattle.theory.specs.Below.{first}
use Rattle.monitor.specs.Questions.{revokes}
use Rattle.theory.proofs.Scan.{scan_ends}
use Rattle.monitor.proofs.Rows.{row_of}

module _ (vs ts : List ℕ) (q k : ℕ) {i : ℕ} (l : q * k ≤ i) (h : i < q * k + k) where
  unmarked_stays : get_or vs q 0 ≡ 0 → revokes vs ts k i ≡ false
  unmarked_stays e = rw (row_of q k l h, eq-eqb (get_or vs q 0) 0 e)

  pub same_stays : get_or vs (get_or ts i 0) 0 ≡ get_or vs q 0 → revokes vs ts k i ≡ false
  same_stays e = rw (row_of q k l h, e, eq-eqb (get_or vs q 0) (get_or vs q 0) refl) (no_more (eqb (get_or vs q 0) 0))
    where
      no_more : (b : Bool) → (not b && false) ≡ false
      no_more true = refl
      no_more false = refl

  -- where q is marked, it is asked whether the next state is marked otherwise
  pub revokes_by : (get_or vs q 0 ≡ 0 → ⊥) → not (eqb (get_or vs (get_or ts i 0) 0) (get_or vs q 0)) ≡ revokes vs ts k i
  revokes_by m = rw (row_of q k l h, ne_eqb (get_or vs q 0) 0 m)

  pub other_revokes : (get_or vs q 0 ≡ 0 → ⊥) → (get_or vs (get_or ts i 0) 0 ≡ get_or vs q 0 → ⊥) → revokes vs ts k i ≡ true
  other_revokes m d = rw (row_of q k l h, ne_eqb (get_or vs q 0) 0 m, ne_eqb (get_or vs (get_or ts i 0) 0) (get_or vs q 0) d)

  pub verdict_stays : revokes vs ts k i ≡ false → 0 < get_or vs q 0 → get_or vs (get_or ts i 0) 0 ≡ get_or vs q 0
  verdict_stays e m =
      let f : (not (eqb (get_or vs (get_or ts i 0) 0) (get_or vs q 0))) ≡ false = rw (row_of q k l h, ne_eqb (get_or vs q 0) 0 (λ z. omega arith)) at e in
      eqb-true (get_or vs (get_or ts i 0) 0) (get_or vs q 0) (not-false (eqb (get_or vs (get_or ts i 0) 0) (get_or vs q 0)) f)

-- no next state of an unmarked state gives up a verdict
pub unmarked_row : (vs ts : List ℕ) (q k : ℕ) → get_or vs q 0 ≡ 0 → q * k + k ≡ first (revokes vs ts k) (q * k) k
unmarked_row vs ts q k e =
    scan_ends (record { from = omega arith; upto = le_refl (q * k + k); fails = λ j l h. unmarked_stays vs ts q k l h e }) (le_refl (q * k + k))
