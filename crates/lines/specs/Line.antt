-- The listing's line for a rule and its body.
use Rattle.std.specs.Prelude.{cond, List, [], ◌∷◌, ◌++◌, ℕ, ◌^◌, eqb, Option, Some, None}
use Rattle.theory.specs.Lists.{each}
use Rattle.theory.specs.Answer.{Answer, refused, answered}
use Rattle.theory.specs.Monitor.{Monitor, monitorability}
use Rattle.theory.specs.Faults.{kinds}
use Rattle.theory.specs.Extent.{Extent, number, missing}
use Rattle.theory.specs.Computed.{distance}
use Rattle.monitor.specs.Format.{monitor_of}
use Rattle.monitor.specs.Questions.{judge_answer}
use Rattle.witness.specs.declared.Witness.{Witness}
use Rattle.text.specs.Text.{ascii, decimal, text_answer}

-- fields with a space before each, and what stands behind them
abbrev pub spaced : List (List ℕ) → List ℕ → List ℕ
spaced [] rest = rest
spaced (field ∷ fields) rest = ascii " " ++ field ++ spaced fields rest

-- a line: its fields, a space between two, and a line feed
abbrev pub line_text : List ℕ → List (List ℕ) → List ℕ
line_text first fields = first ++ spaced fields (ascii "\n")

-- the word for a monitorability: "as numbers these four are 0 to 3 in that order"
abbrev pub monitorability_text : ℕ → List ℕ
monitorability_text m =
    cond (eqb m 0) (ascii "pos") (cond (eqb m 1) (ascii "neg") (cond (eqb m 2) (ascii "both") (ascii "none")))

-- a distance, "`-` for immune"
abbrev pub distance_text : Extent → List ℕ
distance_text missing = ascii "-"
distance_text (number l) = decimal l

-- "four distances under reading 3", of each fault alone in the written order
abbrev pub distance_texts : Monitor → List (List ℕ)
distance_texts m = each kinds (λ c. distance_text (distance m 3 (2 ^ c)) ∷ [])

-- "The fields are rule number, n, monitorability and four distances under reading 3"
abbrev pub card_line : ℕ → Monitor → List ℕ
card_line rule m =
    line_text (decimal rule)
    (decimal m.automaton.states ∷ monitorability_text (monitorability m) ∷ distance_texts m)

-- "or rule number, the word `refused`, and number and place of the body's refusal"
abbrev pub refusal_line : ℕ → ℕ → ℕ → List ℕ
refusal_line rule code place = line_text (decimal rule) (ascii "refused" ∷ decimal code ∷ decimal place ∷ [])

-- the line of a rule, by what judging its body answers
abbrev pub judged_line : ℕ → Answer (List ℕ) → Monitor → List ℕ
judged_line rule (refused code place) m = refusal_line rule code place
judged_line rule (answered values) m = card_line rule m

-- the line of a rule and its body
unfoldable pub rule_line : ℕ → ℕ → List ℕ → List ℕ
rule_line limit rule body = judged_line rule (judge_answer limit body) (monitor_of body)

-- writing a line
unfoldable pub line_answer : ℕ → ℕ → List ℕ → ℕ → Answer (List ℕ)
line_answer limit rule body room = text_answer (rule_line limit rule body) room

-- ---- layers

-- longer than every line: seven fields of at most 20 bytes with a byte behind each are 147
abbrev pub line_room : ℕ
line_room = 256

-- no line is longer, as rule numbers have two bytes and no other number of a line has more than five digits:
-- proofs/Lengths.antt
abbrev pub line_most : ℕ
line_most = 41

-- the distance of a column's witness, `-` where there is none
abbrev pub column_text : Option Witness → List ℕ
column_text None = ascii "-"
column_text (Some w) = decimal w.distance

-- the texts of columns, one after the other
abbrev pub column_texts : List (Option Witness) → List (List ℕ)
column_texts [] = []
column_texts (column ∷ columns) = column_text column ∷ column_texts columns

-- the line of a rule with n states, the monitorability y and these columns
abbrev pub shown_line : ℕ → ℕ → ℕ → List (Option Witness) → List ℕ
shown_line rule n y columns = line_text (decimal rule) (decimal n ∷ monitorability_text y ∷ column_texts columns)
