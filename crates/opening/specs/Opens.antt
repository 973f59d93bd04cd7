-- What opening a body answers, and what it writes.
use Rattle.std.specs.Prelude.{◌≡◌, List, ℕ, Result}
use Rattle.theory.specs.Answer.{Answer, asks, written}
use Rattle.theory.specs.Monitor.{Monitor}
use Rattle.basics.specs.Refusals.{answer_by}
use Rattle.basics.specs.declared.refusal.Refusal.{Refusal}
use Rattle.monitor.specs.Format.{states_of, symbols_of, start_of, marks, monitor_of}
use Rattle.monitor.specs.Questions.{table_questions}
use Rattle.monitor.specs.declared.Shape.{Shape}
use Rattle.monitor.specs.Tables.{monitor_of_table}
use Rattle.monitor.specs.declared.table.Table.{Table}

-- the number of states, the number of messages and the start that a body names
abbrev pub shape_of : List ℕ → Shape
shape_of b = record { states = states_of b; symbols = symbols_of b; start = start_of b }

-- opening asks 1 to 8 and answers these three
unfoldable pub open_answer : ℕ → List ℕ → Answer Shape
open_answer limit b = asks (table_questions limit b) (shape_of b)

-- 01's number and place of what opening answers, or the shape of the table
abbrev pub opened : Result Shape Refusal → Answer Shape
opened r = answer_by (λ t. t) r

-- opening the body b with an area lent: the answer, and the area, whose first places take the settled marks
pub record Opens (limit : ℕ) (b area : List ℕ) (r : Result Shape Refusal) (after : List ℕ) : Type 0 where
  pub shape : opened r ≡ open_answer limit b
  pub area_after : after ≡ written (open_answer limit b) (marks b) area

-- the table that is handed out stands for the body's monitor, after the same questions
unfoldable pub open_table_answer : ℕ → List ℕ → Answer Monitor
open_table_answer limit b = asks (table_questions limit b) (monitor_of b)

-- the monitor of what opening a table answers, or 01's number and place
abbrev pub opened_table : Result Table Refusal → Answer Monitor
opened_table r = answer_by monitor_of_table r
