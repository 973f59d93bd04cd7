-- The fault question and the card.
use Rattle.std.specs.Prelude.{Result, Ok, Err, Option as Maybe, List, [], ◌∷◌, ◌++◌, ℕ, ◌^◌}
use Rattle.std.proofs.Math.Option.{Option}
use Rattle.theory.specs.Answer.{Question, Answer, answered, asks}
use Rattle.theory.specs.Monitor.{Monitor, reading, monitorability}
use Rattle.theory.specs.Faults.{kinds}
use Rattle.theory.specs.Lists.{each}
use Rattle.theory.specs.Series.{Series}
use Rattle.theory.specs.Computed.{first_witness}
use Rattle.basics.specs.declared.refusal.Refusal.{Refusal}
use Rattle.basics.specs.Refusals.{refusal, answer_by}
use Rattle.monitor.specs.Format.{monitor_of}
use Rattle.monitor.specs.Questions.{table_questions, question9, question10}
use Rattle.classes.specs.Numbers.{monitorability_number}
use Rattle.witness.specs.declared.Witness.{Witness}
use Rattle.witness.specs.Figures.{FaultFigures, witness_figures, witness_trace, room_questions, found_values, outcome}
use Rattle.immunity.specs.declared.LinkCard.{LinkCard}

-- what a table's fault question answers
abbrev pub table_figures : Monitor → ℕ → ℕ → FaultFigures
table_figures m d set = witness_figures (reading m d) m (first_witness m d set)

-- a fault question asks 1 to 8, 9, 10, 13; `room` is the length of the area lent
abbrev pub fault_questions : ℕ → ℕ → Option Series → ℕ → List Question
fault_questions set d w room = question9 set ∷ question10 d ∷ room_questions w room

-- the answer of the fault question
unfoldable pub fault_answer : ℕ → List ℕ → ℕ → ℕ → ℕ → Answer FaultFigures
fault_answer limit b set d room =
    asks (table_questions limit b ++ fault_questions set d (first_witness (monitor_of b) d set) room)
    (table_figures (monitor_of b) d set)

-- what an answer writes at the front of the area
abbrev pub fault_trace : List ℕ → ℕ → ℕ → List ℕ
fault_trace b set d = witness_trace (first_witness (monitor_of b) d set)

-- 01's number and place of a refusal, or the values of a finding: those of the first witness's outcome
abbrev pub finding : Result (Maybe Witness) Refusal → Answer FaultFigures
finding r = outcome r

-- ---- the card

-- n and monitorability
abbrev pub summary_figures : Monitor → List ℕ
summary_figures m = m.automaton.states ∷ monitorability m ∷ []

-- the column of rank c: what the fault question of that fault alone answers under reading 3
abbrev pub column_figures : ℕ → Monitor → FaultFigures
column_figures c m = table_figures m 3 (2 ^ c)

-- the answer of a card: its summary, and its columns in the written order of the faults
pub record CardAnswer : Type 0 where
  pub summary : Answer (List ℕ)
  pub columns : List (Answer FaultFigures)

-- a summary and columns with these values, after these questions
abbrev pub card_asking : List Question → Monitor → CardAnswer
card_asking questions m = record {
  summary = asks questions (summary_figures m);
  columns = each kinds (λ c. asks questions (column_figures c m) ∷ []);
}

-- a card asks 1 to 8, for its summary and for each of its columns
unfoldable pub card_answer : ℕ → List ℕ → CardAnswer
card_answer limit b = card_asking (table_questions limit b) (monitor_of b)

-- 01's number and place of a refusal, or the values of a summary
abbrev pub summarised : Result LinkCard Refusal → Answer (List ℕ)
summarised r = answer_by (λ c. c.states ∷ monitorability_number c.monitorability ∷ []) r

-- the findings of the columns, one after the other
abbrev pub found : List (Maybe Witness) → List (Answer FaultFigures)
found [] = []
found (column ∷ columns) = answered (found_values column) ∷ found columns

-- the columns of a card; the refusal in each where the table is refused
abbrev pub columned : Result LinkCard Refusal → List (Answer FaultFigures)
columned (Ok c) = found c.columns
columned (Err r) = each kinds (λ c. refusal r ∷ [])

-- the values of a card
abbrev pub carded : Result LinkCard Refusal → CardAnswer
carded r = record { summary = summarised r; columns = columned r }
