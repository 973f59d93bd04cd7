-- Parts of a list from one place to another, as far as they are there.
use mathlib.Core.Path.{◌≡◌, ap, ◌∙◌}
use mathlib.Core.List.{List, [], ◌∷◌}
use Prim.Native.Nat.{ℕ, zero, suc, ◌+◌, ◌-◌, min}
use native.Mathlib.Omega.{arith}
use lib.ListN.{length, take, drop, length-drop}
use lib.Seq.{take-nil, drop-nil}

-- a place past the end is the end
take_least : (i : ℕ) (l : List ℕ) → take (min i (length l)) l ≡ take i l
take_least zero l = (let e : min 0 (length l) ≡ 0 = omega arith in ap (λ (n : ℕ). take n l) e)
take_least (suc i) [] = take-nil (min (suc i) 0)
take_least (suc i) (x ∷ l) = (let e : min (suc i) (suc (length l)) ≡ suc (min i (length l)) = omega arith in
    ap (λ (n : ℕ). take n (x ∷ l)) e ∙ ap (λ (r : List ℕ). x ∷ r) (take_least i l))

pub drop_least : (i : ℕ) (l : List ℕ) → drop (min i (length l)) l ≡ drop i l
drop_least zero l = (let e : min 0 (length l) ≡ 0 = omega arith in ap (λ (n : ℕ). drop n l) e)
drop_least (suc i) [] = drop-nil (min (suc i) 0)
drop_least (suc i) (x ∷ l) = (let e : min (suc i) (suc (length l)) ≡ suc (min i (length l)) = omega arith in ap (λ (n : ℕ). drop n (x ∷ l)) e ∙ drop_least i l)

-- the part that `part` lends
pub part_lent : (l : List ℕ) (from count : ℕ) {start size : ℕ} → start ≡ min from (length l) → size ≡ min count (length l - start)
    → take (start + size - start) (drop start l) ≡ take count (drop from l)
part_lent l from count {start} {size} e f =
    let long : start + size - start ≡ min count (length (drop from l)) = omega (arith, e, f, length-drop from l) in
    ap (λ (i : ℕ). take (start + size - start) (drop i l)) e
    ∙ ap (take (start + size - start)) (drop_least from l)
    ∙ ap (λ (i : ℕ). take i (drop from l)) long
    ∙ take_least count (drop from l)
