-- The calls that answer a step and a trace.
use Rattle.std.specs.Prelude.{List, [], ◌∷◌, ◌++◌, ℕ, Option, Some, None, Result}
use Rattle.theory.specs.Extent.{Extent, number, missing}
use Rattle.theory.specs.Answer.{Question, Answer, asks}
use Rattle.theory.specs.Monitor.{Monitor, reading}
use Rattle.theory.specs.Count.{verdict_count}
use Rattle.theory.specs.Distance.{reads}
use Rattle.basics.specs.Refusals.{answer_by}
use Rattle.basics.specs.declared.refusal.Refusal.{Refusal}
use Rattle.monitor.specs.Format.{monitor_of}
use Rattle.monitor.specs.Questions.{table_questions, question10, question11, question12}
use Rattle.readings.specs.declared.answers.Step.{Step}
use Rattle.readings.specs.declared.answers.Traced.{Traced}

-- a step asks 1 to 8, 10, 11, 12; "its one message has place 0"
abbrev pub step_questions : ℕ → ℕ → ℕ → Monitor → List Question
step_questions d q a m =
    question10 d ∷ question11 m.automaton.states q ∷ question12 m.automaton.symbols (a ∷ []) ∷ []

-- "A step answers the next state and its reading"
abbrev pub step_figures : ℕ → ℕ → ℕ → Monitor → List ℕ
step_figures d q a m = m.automaton.next q a ∷ reading m d (m.automaton.next q a) ∷ []

-- the answer of a step
unfoldable pub step_answer : ℕ → List ℕ → ℕ → ℕ → ℕ → Answer (List ℕ)
step_answer limit b d q a =
    asks (table_questions limit b ++ step_questions d q a (monitor_of b)) (step_figures d q a (monitor_of b))

-- a trace asks 1 to 8, 10, 12
abbrev pub trace_questions : ℕ → List ℕ → Monitor → List Question
trace_questions d w m = question10 d ∷ question12 m.automaton.symbols w ∷ []

-- the values of a trace: its reading, and after how many messages the verdict fell
pub record TraceFigures : Type 0 where
  pub reading : ℕ
  pub count : Extent

-- "A trace answers the reading of the state reached from the start." "The trace reading shall give that count too" (02)
abbrev pub trace_figures : ℕ → List ℕ → Monitor → TraceFigures
trace_figures d w m = record { reading = reads m d w; count = verdict_count m w }

-- the answer of a trace
unfoldable pub trace_answer : ℕ → List ℕ → ℕ → List ℕ → Answer TraceFigures
trace_answer limit b d w =
    asks (table_questions limit b ++ trace_questions d w (monitor_of b)) (trace_figures d w (monitor_of b))

-- a count as a number, or never
abbrev pub counted : Option ℕ → Extent
counted (Some i) = number i
counted None = missing

-- 01's number and place of a refusal, or the values of a step
abbrev pub stepped : Result Step Refusal → Answer (List ℕ)
stepped r = answer_by (λ s. s.state ∷ s.reading ∷ []) r

-- the same of a trace
abbrev pub traced : Result Traced Refusal → Answer TraceFigures
traced r = answer_by (λ t. record { reading = t.reading; count = counted t.count }) r
