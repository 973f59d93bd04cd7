-- The questions that a certificate is asked (02, note 7), each with its number and place.
use Rattle.std.specs.Prelude.{List, [], ◌∷◌, ◌++◌, ℕ, eqb, length}
use Rattle.theory.specs.Below.{first}
use Rattle.theory.specs.Answer.{Question, Answer, asks}
use Rattle.theory.specs.Monitor.{Monitor}
use Rattle.theory.specs.Certificate.{disagrees, read_alike, step_alike, parted}
use Rattle.monitor.specs.Format.{monitor_of}
use Rattle.monitor.specs.Questions.{first_not_below, of_each, question9, question10, table_questions, no_values}

-- "length n (14, place the length)"
abbrev pub question14 : ℕ → List ℕ → Question
question14 n c = record { yes = eqb (length c) n; number = 14; place = length c }

-- "block numbers below n (15)", "the place is the lowest state at fault"
abbrev pub question15 : ℕ → List ℕ → Question
question15 n c = of_each 15 0 (first_not_below n c) (length c)

-- "equal readings (16)", "the lowest that disagrees with a lower state of its block"
abbrev pub question16 : Monitor → ℕ → List ℕ → Question
question16 m d c = of_each 16 0 (first (disagrees (read_alike m d) c) 0 m.automaton.states) m.automaton.states

-- "one block per message (17)", the place likewise
abbrev pub question17 : Monitor → List ℕ → Question
question17 m c =
    of_each 17 0 (first (disagrees (step_alike m.automaton c) c) 0 m.automaton.states) m.automaton.states

-- "fault steps (18)", "the state before the fault"
abbrev pub question18 : Monitor → ℕ → List ℕ → Question
question18 m set c = of_each 18 0 (first (parted m set c) 0 m.automaton.states) m.automaton.states

-- the questions about the blocks
abbrev pub block_questions : ℕ → ℕ → List ℕ → Monitor → List Question
block_questions set d c m =
    question14 m.automaton.states c
    ∷ question15 m.automaton.states c
    ∷ question16 m d c
    ∷ question17 m c
    ∷ question18 m set c
    ∷ []

-- "After 1 to 10 the checks in order"
abbrev pub certificate_questions : ℕ → ℕ → List ℕ → Monitor → List Question
certificate_questions set d c m = question9 set ∷ question10 d ∷ block_questions set d c m

-- the answer on a certificate: accepted without values, or the first no
unfoldable pub certificate_answer : ℕ → List ℕ → ℕ → ℕ → List ℕ → Answer (List ℕ)
certificate_answer limit b set d c =
    asks (table_questions limit b ++ certificate_questions set d c (monitor_of b)) no_values
