-- The line that is written is the line of the definition.
use mathlib.Core.Path.{◌≡◌, refl, sym, ap, ◌∙◌}
use mathlib.Core.List.{List, [], ◌∷◌, ◌++◌}
use mathlib.Core.Option.{Option, none, some}
use Prim.Native.Nat.{ℕ, zero, suc, ◌^◌}
use lib.ListN.{get_or}
use Rattle.std.specs.Prelude.{Option as Maybe, Some, None, Ok, Err}
use Rattle.theory.specs.Lists.{each}
use Rattle.theory.specs.Answer.{Answer, refused, answered, asks}
use Rattle.theory.specs.Monitor.{Monitor, reading, monitorability}
use Rattle.theory.specs.Faults.{kinds}
use Rattle.theory.specs.Series.{Series}
use Rattle.theory.specs.Computed.{extent_of, first_witness, distance}
use Rattle.theory.proofs.Answer.{asks_values, asks_other, asks_refuses}
use Rattle.basics.specs.declared.refusal.Refusal.{Refusal}
use Rattle.basics.specs.Reasons.{number_of}
use Rattle.classes.specs.Numbers.{monitorability_number}
use Rattle.monitor.specs.Format.{monitor_of}
use Rattle.monitor.specs.Questions.{table_questions, judge_answer}
use Rattle.witness.specs.declared.Witness.{Witness}
use Rattle.witness.specs.Figures.{FaultFigures, witness_figures, found_values}
use Rattle.immunity.specs.declared.LinkCard.{LinkCard}
use Rattle.immunity.specs.Findings.{table_figures, summary_figures, column_figures, CardAnswer, card_answer, found, carded}
use Rattle.immunity.proofs.Columns.{card_asks}
use Rattle.text.specs.Text.{ascii, decimal}
use Rattle.lines.specs.Line.{distance_text, distance_texts, refusal_line, rule_line, column_text, column_texts, shown_line}

-- ---- the texts of columns by what they answer

figures_text : FaultFigures → List ℕ
figures_text none = ascii "-"
figures_text (some w) = decimal (get_or w.numbers 0 0)

answer_text : Answer FaultFigures → List ℕ
answer_text (refused n place) = ascii "refused"
answer_text (answered w) = figures_text w

answer_texts : List (Answer FaultFigures) → List (List ℕ)
answer_texts [] = []
answer_texts (a ∷ more) = answer_text a ∷ answer_texts more

column_text_lem : (column : Maybe Witness) → column_text column ≡ answer_text (answered (found_values column))
unfolding answer_text figures_text
column_text_lem None = refl
column_text_lem (Some w) = refl

column_texts_lem : (columns : List (Maybe Witness)) → column_texts columns ≡ answer_texts (found columns)
unfolding answer_texts
column_texts_lem [] = refl
column_texts_lem (column ∷ columns) = rw (column_text_lem column, column_texts_lem columns)

distance_text_lem : (m : Monitor) (d set : ℕ) → answer_text (answered (table_figures m d set)) ≡ distance_text (distance m d set)
unfolding answer_text figures_text
distance_text_lem m d set = go (first_witness m d set)
  where
    go : (o : Option Series) → figures_text (witness_figures (reading m d) m o) ≡ distance_text (extent_of o)
    go none = refl
    go (some s) = refl

texts_append : (xs ys : List (Answer FaultFigures)) → answer_texts (xs ++ ys) ≡ answer_texts xs ++ answer_texts ys
unfolding answer_texts
texts_append [] ys = refl
texts_append (x ∷ xs) ys = rw (texts_append xs ys)

distance_texts_lem : (m : Monitor) (n : ℕ) → answer_texts (each n (λ c. answered (column_figures c m) ∷ [])) ≡ each n
    (λ c. distance_text (distance m 3 (2 ^ c)) ∷ [])
unfolding answer_texts each
distance_texts_lem m zero = refl
distance_texts_lem m (suc n) =
    texts_append (each n (λ c. answered (column_figures c m) ∷ [])) (answered (column_figures n m) ∷ [])
    ∙ rw (distance_texts_lem m n, distance_text_lem m 3 (2 ^ n))

-- ---- the line of a rule, by its card

module _ (limit : ℕ) (b : List ℕ) where
  abbrev m : Monitor
  m = monitor_of b

  pub rule_carded : (rule : ℕ) (card : LinkCard) → carded (Ok card) ≡ card_answer limit b
      → shown_line rule card.states (monitorability_number card.monitorability) card.columns ≡ rule_line limit rule b
  unfolding card_answer rule_line judge_answer
  rule_carded rule card e =
      let summary = ap (λ (c : CardAnswer). c.summary) e in
      let columns = ap (λ (c : CardAnswer). c.columns) e in
      let accepts : (A : Type 0) (values : A)
      → asks (table_questions limit b) values ≡ answered values = λ A values. asks_other (table_questions limit b) (summary_figures m) values (sym summary) in
      let texts : column_texts card.columns ≡ distance_texts m =
      column_texts_lem card.columns ∙ ap answer_texts (columns ∙ ap (λ (c : CardAnswer). c.columns) (sym (card_asks (table_questions limit b) m accepts)))
      ∙ distance_texts_lem m kinds in
      let values = asks_values (table_questions limit b) (summary_figures m) (sym summary) in
      let states : m.automaton.states ≡ card.states = ap (λ (l : List ℕ). get_or l 0 0) values in
      let monitorable : monitorability m ≡ monitorability_number card.monitorability = ap (λ (l : List ℕ). get_or l 1 0) values in
      rw (texts, ← states, ← monitorable, accepts (List ℕ) [])

  pub rule_refused : (rule : ℕ) (r : Refusal) → carded (Err r) ≡ card_answer limit b → refusal_line rule (number_of r.reason) r.place ≡ rule_line limit rule b
  unfolding card_answer rule_line judge_answer
  rule_refused rule r e =
      let summary = ap (λ (c : CardAnswer). c.summary) e in
      rw (asks_refuses {B = List ℕ} (table_questions limit b) (summary_figures m) [] (sym summary))
