-- The question of trust (02, note 3).
use Rattle.std.specs.Prelude.{Result, Option as Maybe, List, ◌∷◌, ◌++◌, ℕ}
use Rattle.std.proofs.Math.Option.{Option}
use Rattle.theory.specs.Answer.{Question, Answer, asks}
use Rattle.theory.specs.Monitor.{Monitor, reading}
use Rattle.theory.specs.Series.{Series}
use Rattle.theory.specs.Computed.{first_misreading}
use Rattle.basics.specs.declared.refusal.Refusal.{Refusal}
use Rattle.monitor.specs.Format.{monitor_of}
use Rattle.monitor.specs.Questions.{table_questions, question9, question10, question19}
use Rattle.witness.specs.declared.Witness.{Witness}
use Rattle.witness.specs.Figures.{FaultFigures, witness_figures, witness_trace, room_questions, outcome}

-- "give yes, or the first witness": the figures of the fault question's witness, none for yes
abbrev pub trust_figures : Monitor → ℕ → ℕ → ℕ → FaultFigures
trust_figures m d set v = witness_figures (reading m d) m (first_misreading m d set v)

-- "After questions 1 to 10 a verdict that is not of the chosen reading is 19 at place 0, and room, 13, comes last";
-- `room` is the length of the area lent
abbrev pub trust_questions : ℕ → ℕ → ℕ → Option Series → ℕ → List Question
trust_questions set d v w room = question9 set ∷ question10 d ∷ question19 d v ∷ room_questions w room

-- the answer of the question of trust
unfoldable pub trust_answer : ℕ → List ℕ → ℕ → ℕ → ℕ → ℕ → Answer FaultFigures
trust_answer limit b set d v room =
    asks (table_questions limit b ++ trust_questions set d v (first_misreading (monitor_of b) d set v) room)
    (trust_figures (monitor_of b) d set v)

-- what an answer writes at the front of the area: the sent trace of the witness, nothing for yes
abbrev pub trust_trace : List ℕ → ℕ → ℕ → ℕ → List ℕ
trust_trace b set d v = witness_trace (first_misreading (monitor_of b) d set v)

-- 01's number and place of a refusal, or the values of an answer: those of the first witness's outcome
abbrev pub trust : Result (Maybe Witness) Refusal → Answer FaultFigures
trust r = outcome r
