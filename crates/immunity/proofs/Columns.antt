-- The columns of a card, one after the other; a card after its questions.
use mathlib.Core.Path.{◌≡◌, refl, sym, ap, ap₂, ◌∙◌}
use mathlib.Core.List.{List, [], ◌∷◌, ◌++◌}
use Prim.Native.Nat.{ℕ, suc, ◌+◌, ◌<◌}
use native.Mathlib.Numerals.{add-one}
use native.Mathlib.Omega.{arith}
use lib.ListN.{length, take, set, replicate, length-set}
use lib.Seq.{take-suc-set}
use Rattle.std.specs.Prelude.{Result, IsErrAnd, Option as Maybe, None}
use Rattle.std.proofs.lemmas.Result.{err_from_is_err_and}
use Rattle.theory.specs.Lists.{each}
use Rattle.theory.specs.Monitor.{Monitor}
use Rattle.theory.specs.Answer.{Question, Answer, answered, asks}
use Rattle.theory.specs.Faults.{kinds}
use Rattle.theory.proofs.Lists.{each_same}
use Rattle.basics.specs.Refusals.{refusal}
use Rattle.basics.specs.declared.refusal.Refusal.{Refusal}
use Rattle.witness.specs.declared.Witness.{Witness}
use Rattle.witness.specs.Figures.{FaultFigures, found_values}
use Rattle.immunity.specs.declared.LinkCard.{LinkCard}
use Rattle.immunity.specs.Findings.{summary_figures, column_figures, CardAnswer, card_asking, found, carded}

-- ---- the columns, filled one after the other

found_append : (xs ys : List (Maybe Witness)) → found (xs ++ ys) ≡ found xs ++ found ys
found_append [] ys = refl
found_append (x ∷ xs) ys = ap (λ (l : List (Answer FaultFigures)). answered (found_values x) ∷ l) (found_append xs ys)

-- the columns below `rank` are filled
pub record Filled (m : Monitor) (rank : ℕ) (columns : List (Maybe Witness)) : Type 0 where
  pub size : length columns ≡ kinds
  pub filled : found (take rank columns) ≡ each rank (λ c. answered (column_figures c m) ∷ [])

pub filled_none : (m : Monitor) → Filled m 0 (replicate kinds None)
unfolding each
filled_none m = record { size = refl; filled = refl }

pub filled_more : {m : Monitor} {rank at : ℕ} {columns : List (Maybe Witness)} (column : Maybe Witness) → Filled m rank columns → rank < kinds
    → at ≡ rank → found_values column ≡ column_figures at m → Filled m (rank + 1) (set columns at column)
unfolding each
filled_more {m} {rank} {at} {columns} column h l here e = record {
  size = length-set columns at column ∙ h.size;
  filled =
      ap (λ (i : ℕ). found (take i (set columns at column))) (add-one rank)
      ∙ ap (λ (i : ℕ). found (take (suc rank) (set columns i column))) here
      ∙ ap found (take-suc-set columns rank column (omega (arith, l, h.size)))
      ∙ found_append (take rank columns) (column ∷ [])
      ∙ ap₂ (λ (front : List (Answer FaultFigures)) (a : FaultFigures). front ++ (answered a ∷ [])) h.filled
      (e ∙ ap (λ (c : ℕ). column_figures c m) here)
      ∙ ap (λ (i : ℕ). each i (λ c. answered (column_figures c m) ∷ [])) (sym (add-one rank));
}

-- ---- the card of a refused body, and of an accepted one

-- the refusal, and it in each column
abbrev pub refused_card : Refusal → CardAnswer
refused_card x = record { summary = refusal x; columns = each kinds (λ c. refusal x ∷ []) }

-- the card that a `?` hands back
pub card_handed : (r : Result LinkCard Refusal) (x : Refusal) → IsErrAnd r (λ y. y ≡ x) → carded r ≡ refused_card x
card_handed r x e = (let met = err_from_is_err_and r e in rw (met.1, met.2))

module _ (questions : List Question) (m : Monitor) where
  pub card_asks : ((A : Type 0) (values : A) → asks questions values ≡ answered values) → card_asking [] m ≡ card_asking questions m
  card_asks e =
      let columns = each_same kinds (λ c. answered (column_figures c m) ∷ []) (λ c. asks questions (column_figures c m) ∷ [])
      (λ c l. rw (e FaultFigures (column_figures c m))) in
      rw (e (List ℕ) (summary_figures m), columns)

  pub card_refuses : (x : Refusal) → ((A : Type 0) (values : A) → asks questions values ≡ refusal x)
      → refused_card x ≡ card_asking questions m
  card_refuses x e =
      let columns = each_same kinds (λ c. refusal x ∷ []) (λ c. asks questions (column_figures c m) ∷ []) (λ c l. rw (e FaultFigures (column_figures c m))) in
      rw (e (List ℕ) (summary_figures m), columns)
