-- The bodies of an accepted collection lie in the file, one behind the other.
use mathlib.Core.Path.{◌≡◌, sym, ap, ◌∙◌}
use mathlib.Core.List.{List, [], ◌∷◌}
use Prim.Native.Nat.{ℕ, zero, suc, ◌+◌, ◌-◌, ◌≤◌, ◌<◌, min}
use native.Mathlib.Nat.{le_trans, le_of_eq, le-add_right, zero-add}
use native.Mathlib.Omega.{arith}
use lib.ListN.{length, length-take, length-drop}
use borrow.Author.Tests.{eqb-true}
use Rattle.theory.specs.Answer.{answered}
use Rattle.collection.proofs.Entries.{starts_later}
use Rattle.collection.proofs.Answered.{Answered, all_answered}
use Rattle.collection.proofs.Order.{passes_at}
use Rattle.collection.specs.Contents.{count_of, offset_of, length_of, start_of_body, follows, collection_answer}
use Rattle.collection.specs.Placed.{Placed}

-- where body i ends, body i + 1 has to start
pub next_start : (file : List ℕ) (i : ℕ) → start_of_body file (i + 1) ≡ offset_of file i + length_of file i
next_start file i =
    let e : i + 1 - 1 ≡ i = omega arith in
    sym (starts_later file (i + 1) (λ (q : ◌≡◌ {A = ℕ} (i + 1) 0). omega arith) (ap (offset_of file) (sym e)) (ap (length_of file) (sym e)))

module _ (file : List ℕ) (accepted : collection_answer file ≡ answered (count_of file ∷ [])) where
  left : Answered file
  left = all_answered file accepted

  starts_at : (i : ℕ) → i < count_of file → offset_of file i ≡ start_of_body file i
  starts_at i h = eqb-true (offset_of file i) (start_of_body file i) (passes_at (follows file) (count_of file) left.follow i h)

  -- no start lies behind the end of the file
  before_end : (d i : ℕ) → d + i ≡ count_of file → start_of_body file i ≤ length file
  before_end zero i e = le_of_eq (ap (start_of_body file) (sym (zero-add i) ∙ e) ∙ sym left.end)
  before_end (suc d) i e = le_trans (le_of_eq (sym (starts_at i (omega (arith, e)))))
      (le_trans (le-add_right _ _) (le_trans (le_of_eq (sym (next_start file i))) (before_end d (i + 1) (omega (arith, e)))))

  pub bodies_placed : (i : ℕ) → i < count_of file → Placed file i
  bodies_placed i h =
      let t = le_trans (le_of_eq (sym (next_start file i))) (before_end (count_of file - (i + 1)) (i + 1) (omega (arith, h))) in
      record { starts = starts_at i h; inside = t; whole = simp (length-take, length-drop) (min_left (offset_of file i) (length_of file i) (length file) t) }
    where
      min_left : (a b c : ℕ) → a + b ≤ c → min b (c - a) ≡ b
      min_left a b c l = omega (arith, l)
