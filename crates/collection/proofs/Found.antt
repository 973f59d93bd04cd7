-- Looking up a rule: in an accepted collection every entry is found again.
use mathlib.Core.Path.{◌≡◌, refl, sym, ap, subst, ◌∙◌}
use mathlib.Core.Bool.{Bool, true, false, cond}
use mathlib.Core.List.{List, [], ◌∷◌}
use Prim.Native.Nat.{ℕ, zero, suc, ◌+◌, ◌-◌, ◌<◌, zero-le}
use native.Mathlib.Nat.{zero-add, lt_trans}
use native.Mathlib.Omega.{arith}
use lib.Dec.{eqb, ltb}
use borrow.Author.Tests.{eqb-true, eq-eqb, ne_eqb, lt-ltb, ltb-true}
use Rattle.std.specs.Prelude.{Some, None}
use Rattle.theory.specs.Answer.{answered}
use Rattle.theory.proofs.Below.{first_here}
use Rattle.theory.proofs.Scan.{scan_finds}
use Rattle.collection.proofs.Answered.{all_answered}
use Rattle.collection.proofs.Entries.{rises_later}
use Rattle.collection.proofs.Order.{passes_at}
use Rattle.collection.specs.Contents.{count_of, rule_of, rises, first_with, entry_with, collection_answer}

module _ (file : List ℕ) (accepted : collection_answer file ≡ answered (count_of file ∷ [])) where
  -- each rule number is greater than the one before
  next_rises : (i : ℕ) → i + 1 < count_of file → rule_of file i < rule_of file (i + 1)
  next_rises i h =
      let e : i + 1 - 1 ≡ i = omega arith in
      let later = rises_later (rule_of file) (i + 1) (λ (q : ◌≡◌ {A = ℕ} (i + 1) 0). omega arith) (ap (rule_of file) (sym e)) refl in
      ltb-true (rule_of file i) (rule_of file (i + 1))
      (later ∙ passes_at (rises (rule_of file)) (count_of file) (all_answered file accepted).rise (i + 1) h)

  rules_rise : (d i : ℕ) → d + i + 1 < count_of file → rule_of file i < rule_of file (d + i + 1)
  rules_rise zero i h = rw (zero-add i) (next_rises i (omega (arith, h)))
  rules_rise (suc d) i h =
      let e : suc d + i ≡ d + i + 1 = omega arith in
      rw (e) (lt_trans (rules_rise d i (omega (arith, h))) (next_rises (d + i + 1) (omega (arith, h))))

  others : (i : ℕ) → i < count_of file → (j : ℕ) → j < i → eqb (rule_of file j) (rule_of file i) ≡ false
  others i h j l =
      let e : i - (j + 1) + j + 1 ≡ i = omega (arith, l) in
      let less : rule_of file j < rule_of file i = subst (λ (k : ℕ). rule_of file j < rule_of file k) e (rules_rise (i - (j + 1)) j (omega (arith, e, h))) in
      ne_eqb (rule_of file j) (rule_of file i) (λ q. omega (arith, q, less))

  -- looking up an entry's rule number finds that entry
  pub found_again : (i : ℕ) → i < count_of file → entry_with file (rule_of file i) ≡ Some i
  found_again i h =
      let first : i ≡ first_with file (rule_of file i) =
      scan_finds record { from = zero-le; upto = omega (arith, h); fails = λ j g l. others i h j l } (eq-eqb (rule_of file i) (rule_of file i) refl) in
      rw (← first, lt-ltb i (count_of file) h)

-- an entry that is found is there and has the rule number
pub found_right : (file : List ℕ) (rule i : ℕ) → entry_with file rule ≡ Some i → (i < count_of file) × (rule_of file i ≡ rule)
found_right file rule i e = go (ltb (first_with file rule) (count_of file)) refl e
  where
    go : (b : Bool) → ltb (first_with file rule) (count_of file) ≡ b → cond b (Some (first_with file rule)) None ≡ Some i
        → (i < count_of file) × (rule_of file i ≡ rule)
    go true l h =
        let same : first_with file rule ≡ i = cc in
        let low = ltb-true (first_with file rule) (count_of file) l in
        let has = first_here (λ j. eqb (rule_of file j) rule) 0 (count_of file) (omega (arith, low)) in
        rw (← same) ((low, eqb-true (rule_of file (first_with file rule)) rule has))
    go false l h = absurd (let z : ◌≡◌ {A = ℕ} 0 1 = cc in omega arith)
