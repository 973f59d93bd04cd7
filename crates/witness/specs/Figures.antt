-- The first witness of a fault set, over a test of the two readings; and the questions asked before it.
use Rattle.std.specs.Prelude.{Bool, true, Result, Option as Maybe, Some, None, List, [], ◌∷◌, ◌++◌, ℕ, length}
use Rattle.std.proofs.Math.Option.{Option, none, some}
use Rattle.theory.specs.Answer.{Question, Answer, asks}
use Rattle.theory.specs.Automaton.{run}
use Rattle.theory.specs.Extent.{Extent}
use Rattle.theory.specs.Monitor.{Monitor, reading}
use Rattle.theory.specs.Count.{verdict_count}
use Rattle.theory.specs.Series.{Series, sent_trace, received_trace}
use Rattle.theory.specs.Distance.{faults_of}
use Rattle.theory.specs.Computed.{first_harmful}
use Rattle.basics.specs.declared.refusal.Refusal.{Refusal}
use Rattle.basics.specs.Refusals.{answer_by}
use Rattle.monitor.specs.Format.{monitor_of}
use Rattle.monitor.specs.Questions.{table_questions, question9, question10, question13, question19}
use Rattle.square.specs.declared.Test.{Test}
use Rattle.square.specs.declared.Test.TheVariants.{Differ, Misread}
use Rattle.square.specs.Square.{passes}
use Rattle.faults.specs.Kinds.{bit_of}
use Rattle.readings.specs.Readings.{counted}
use Rattle.witness.specs.declared.Witness.{Witness}

-- the values of a witness: 01's six numbers, and two counts
pub record WitnessFigures : Type 0 where
  pub numbers : List ℕ
  pub sent_count : Extent
  pub received_count : Extent

-- "The answer has the distance (sent length), the number of messages before the fault, its kind (the fixed bit),
-- the replacement (0 except for corruption) and both readings."
abbrev pub series_numbers : (ℕ → ℕ) → Monitor → Series → List ℕ
series_numbers read m s =
    length (sent_trace s)
    ∷ length s.before
    ∷ s.fault.kind
    ∷ s.fault.replacement
    ∷ read (run m.automaton m.start (sent_trace s))
    ∷ read (run m.automaton m.start (received_trace s))
    ∷ []

-- "Every witness carries the count of its sent and of its received trace as well" (02, note 1): by the marks, whatever
-- is read
abbrev pub series_figures : (ℕ → ℕ) → Monitor → Series → WitnessFigures
series_figures read m s = record {
  numbers = series_numbers read m s;
  sent_count = verdict_count m (sent_trace s);
  received_count = verdict_count m (received_trace s);
}

-- the values of a question about faults: none where there is no witness
abbrev pub FaultFigures : Type 0
FaultFigures = Option WitnessFigures

-- the values for the first witness, where there is one
abbrev pub witness_figures : (ℕ → ℕ) → Monitor → Option Series → FaultFigures
witness_figures read m none = none
witness_figures read m (some s) = some (series_figures read m s)

-- "A witness fills the first bytes of the area with the sent trace"; "Immune also writes nothing."
abbrev pub witness_trace : Option Series → List ℕ
witness_trace none = []
witness_trace (some s) = sent_trace s

-- 13, of the trace to be written
abbrev pub room_questions : Option Series → ℕ → List Question
room_questions w room = question13 (length (witness_trace w)) room ∷ []

-- the values of a witness, its numbers in 01's order
abbrev pub witness_values : Witness → WitnessFigures
witness_values w = record {
  numbers = w.distance ∷ w.before ∷ bit_of w.kind ∷ w.replacement ∷ w.sent ∷ w.received ∷ [];
  sent_count = counted w.counts.sent;
  received_count = counted w.counts.received;
}

-- ---- which witness is asked about

-- two states whose readings pass the test, the one after the sent trace first
abbrev pub ends_by : Test → Monitor → ℕ → ℕ → ℕ → Bool
ends_by test m d p q = passes test (reading m d p) (reading m d q)

-- the first series of the set whose readings pass the test
abbrev pub first_by : Test → Monitor → ℕ → ℕ → Option Series
first_by test m d set = first_harmful m.automaton (ends_by test m d) (faults_of m set) m.start

-- its values
abbrev pub figures_by : Test → Monitor → ℕ → ℕ → FaultFigures
figures_by test m d set = witness_figures (reading m d) m (first_by test m d set)

-- the verdict that a test names, if any, is one of the reading
abbrev pub of_reading : Test → ℕ → Bool
of_reading Differ d = true
of_reading (Misread v) d = (question19 d v).yes

-- question 19, of a test
abbrev pub test_question : Test → ℕ → Question
test_question test d = record { yes = of_reading test d; number = 19; place = 0 }

-- asked after 1 to 8: 9, 10, 19, 13; `room` is the length of the area lent
abbrev pub witness_questions : Test → ℕ → ℕ → Option Series → ℕ → List Question
witness_questions test set d w room = question9 set ∷ question10 d ∷ test_question test d ∷ room_questions w room

-- what is answered
unfoldable pub witness_answer : ℕ → List ℕ → Test → ℕ → ℕ → ℕ → Answer FaultFigures
witness_answer limit b test set d room =
    asks (table_questions limit b ++ witness_questions test set d (first_by test (monitor_of b) d set) room)
    (figures_by test (monitor_of b) d set)

-- the values of the witness found, if any
abbrev pub found_values : Maybe Witness → FaultFigures
found_values None = none
found_values (Some w) = some (witness_values w)

-- 01's number and place of a refusal, or the values of what was found
abbrev pub outcome : Result (Maybe Witness) Refusal → Answer FaultFigures
outcome r = answer_by found_values r
