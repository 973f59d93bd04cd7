-- Fields put one behind the other.
use mathlib.Core.Path.{◌≡◌, refl, sym, ap, ◌∙◌}
use mathlib.Core.List.{List, [], ◌∷◌, ◌++◌, append_assoc, append-nil}
use Prim.Native.Nat.{ℕ, suc, ◌+◌}
use native.Mathlib.Numerals.{add-one}
use lib.ListN.{take}
use Rattle.std.specs.Prelude.{Option}
use Rattle.text.specs.Text.{ascii, decimal}
use Rattle.lines.specs.Line.{spaced, monitorability_text, column_text, column_texts, shown_line}
use Rattle.witness.specs.declared.Witness.{Witness}

spaced_then : (fields : List (List ℕ)) (rest : List ℕ) → spaced fields rest ≡ spaced fields [] ++ rest
spaced_then [] rest = refl
spaced_then (field ∷ fields) rest =
    ap (λ (l : List ℕ). ascii " " ++ field ++ l) (spaced_then fields rest)
    ∙ ap (λ (l : List ℕ). ascii " " ++ l) (sym (append_assoc field (spaced fields []) rest))

texts_append : (xs ys : List (Option Witness)) → column_texts (xs ++ ys) ≡ column_texts xs ++ column_texts ys
texts_append [] ys = refl
texts_append (x ∷ xs) ys = ap (λ (l : List (List ℕ)). column_text x ∷ l) (texts_append xs ys)

spaced_append : (xs : List (List ℕ)) (field : List ℕ) → spaced (xs ++ (field ∷ [])) [] ≡ spaced xs [] ++ (ascii " " ++ field)
spaced_append [] field = ap (λ (l : List ℕ). ascii " " ++ l) (append-nil field)
spaced_append (x ∷ xs) field =
    ap (λ (l : List ℕ). ascii " " ++ x ++ l) (spaced_append xs field)
    ∙ ap (λ (l : List ℕ). ascii " " ++ l) (sym (append_assoc x (spaced xs []) (ascii " " ++ field)))

-- the columns up to number i, and one more
pub columns_more : (columns : List (Option Witness)) (i : ℕ) (column : Option Witness) → take (suc i) columns ≡ take i columns ++ (column ∷ [])
    → spaced (column_texts (take i columns)) [] ++ (ascii " " ++ column_text column) ≡ spaced (column_texts (take (i + 1) columns)) []
columns_more columns i column e =
    sym (ap (λ (j : ℕ). spaced (column_texts (take j columns)) []) (add-one i)
    ∙ ap (λ (l : List (Option Witness)). spaced (column_texts l) []) e
    ∙ ap (λ (l : List (List ℕ)). spaced l []) (texts_append (take i columns) (column ∷ []))
    ∙ spaced_append (column_texts (take i columns)) (column_text column))

-- the line of a card is its fields, the columns and the line feed
pub card_put : (t : List ℕ) (rule n y : ℕ) (columns : List (Option Witness))
    → ((((t ++ decimal rule) ++ (ascii " " ++ decimal n)) ++ (ascii " " ++ monitorability_text y)) ++ spaced (column_texts columns) []) ++ ascii "\n"
    ≡ t ++ shown_line rule n y columns
card_put t rule n y columns =
    append_assoc (((t ++ decimal rule) ++ (ascii " " ++ decimal n)) ++ (ascii " " ++ monitorability_text y)) (spaced (column_texts columns) []) (ascii "\n")
    ∙ ap (λ (l : List ℕ). (((t ++ decimal rule) ++ (ascii " " ++ decimal n)) ++ (ascii " " ++ monitorability_text y)) ++ l) (sym (spaced_then (column_texts columns) (ascii "\n")))
    ∙ append_assoc ((t ++ decimal rule) ++ (ascii " " ++ decimal n)) (ascii " " ++ monitorability_text y) (spaced (column_texts columns) (ascii "\n"))
    ∙ append_assoc (t ++ decimal rule) (ascii " " ++ decimal n) ((ascii " " ++ monitorability_text y) ++ spaced (column_texts columns) (ascii "\n"))
    ∙ append_assoc t (decimal rule) ((ascii " " ++ decimal n) ++ ((ascii " " ++ monitorability_text y) ++ spaced (column_texts columns) (ascii "\n")))

-- one more column is put
pub column_put : (before : List ℕ) (columns : List (Option Witness)) (i : ℕ) (column : Option Witness) {text next : List ℕ}
    → text ≡ before ++ spaced (column_texts (take i columns)) [] → next ≡ text ++ (ascii " " ++ column_text column)
    → take (suc i) columns ≡ take i columns ++ (column ∷ []) → next ≡ before ++ spaced (column_texts (take (i + 1) columns)) []
column_put before columns i column {text} e f t =
    f
    ∙ ap (λ (l : List ℕ). l ++ (ascii " " ++ column_text column)) e
    ∙ append_assoc before (spaced (column_texts (take i columns)) []) (ascii " " ++ column_text column)
    ∙ ap (λ (l : List ℕ). before ++ l) (columns_more columns i column t)
