-- The call that writes a certificate for a table and a reading.
use Rattle.std.specs.Prelude.{List, [], ◌∷◌, ◌++◌, ℕ}
use Rattle.theory.specs.Answer.{Question, Answer, asks}
use Rattle.theory.specs.Monitor.{Monitor}
use Rattle.monitor.specs.Format.{monitor_of}
use Rattle.monitor.specs.Questions.{table_questions, question10, question13}

-- writing a certificate asks 1 to 8, 10, 13; `room` is the length of the area lent
abbrev pub blocks_questions : ℕ → ℕ → Monitor → List Question
blocks_questions d room m = question10 d ∷ question13 m.automaton.states room ∷ []

-- it answers the length written: a block for each state
abbrev pub blocks_figures : Monitor → List ℕ
blocks_figures m = m.automaton.states ∷ []

-- the answer
unfoldable pub blocks_answer : ℕ → List ℕ → ℕ → ℕ → Answer (List ℕ)
blocks_answer limit b d room =
    asks (table_questions limit b ++ blocks_questions d room (monitor_of b)) (blocks_figures (monitor_of b))
