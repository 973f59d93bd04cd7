-- The call that answers the classes of a table.
use Rattle.std.specs.Prelude.{List, [], ◌∷◌, ◌++◌, ℕ, Result}
use Rattle.theory.specs.Below.{values}
use Rattle.theory.specs.Answer.{Question, Answer, asks}
use Rattle.theory.specs.Monitor.{Monitor, class, monitorability, states_reached}
use Rattle.basics.specs.declared.refusal.Refusal.{Refusal}
use Rattle.basics.specs.Refusals.{answer_by}
use Rattle.monitor.specs.Format.{monitor_of}
use Rattle.monitor.specs.Questions.{table_questions, question13}
use Rattle.classes.specs.declared.Classified.{Classified}
use Rattle.classes.specs.Numbers.{monitorability_number}

-- "classes fill the first n bytes": the class of each state, in order
abbrev pub class_list : Monitor → List ℕ
class_list m = values m.automaton.states (class m)

-- classes ask 1 to 8 and 13; `room` is the length of the area lent
abbrev pub classify_questions : ℕ → Monitor → List Question
classify_questions room m = question13 m.automaton.states room ∷ []

-- they answer the monitorability and the number of states reached
abbrev pub classify_figures : Monitor → List ℕ
classify_figures m = monitorability m ∷ states_reached m ∷ []

-- the answer of the classes
unfoldable pub classify_answer : ℕ → List ℕ → ℕ → Answer (List ℕ)
classify_answer limit b room =
    asks (table_questions limit b ++ classify_questions room (monitor_of b)) (classify_figures (monitor_of b))

-- 01's numbers of a classification
abbrev pub classification : Result Classified Refusal → Answer (List ℕ)
classification r = answer_by (λ c. monitorability_number c.monitorability ∷ c.reached ∷ []) r
