-- The questions on the way in, each with its number and place. Those about a body are asked of a list of numbers,
-- bytes or not.
use Rattle.std.specs.Prelude.{Result, Bool, ◌&&◌, ◌||◌, not, List, [], ◌∷◌, ◌++◌, ℕ, ◌+◌, ◌*◌, ◌/◌, length, get_or}
use Rattle.std.specs.Prelude.{eqb, leb, ltb}
use Rattle.theory.specs.Below.{first}
use Rattle.theory.specs.Answer.{Question, Answer, asks}
use Rattle.theory.specs.Faults.{all_faults}
use Rattle.theory.specs.Monitor.{symbol_limit, verdicts_of}
use Rattle.basics.specs.declared.refusal.Refusal.{Refusal}
use Rattle.basics.specs.Refusals.{answer_by}
use Rattle.monitor.specs.Format.{states_of, symbols_of, start_of, drawn_marks, nexts}

-- the number at i is not below the bound
abbrev pub not_below : ℕ → List ℕ → ℕ → Bool
not_below bound l i = leb bound (get_or l i 0)

-- the index of the first number that is not below the bound, or the length
abbrev pub first_not_below : ℕ → List ℕ → ℕ
first_not_below bound l = first (not_below bound l) 0 (length l)

-- next state i belongs to a state marked true or false and is not marked so; its state is i / k
abbrev pub revokes : List ℕ → List ℕ → ℕ → ℕ → Bool
revokes vs ts k i = not (eqb (get_or vs (i / k) 0) 0) && not (eqb (get_or vs (get_or ts i 0) 0) (get_or vs (i / k) 0))

-- the index of the first next state that is wrong so, or the length
abbrev pub first_revoking : List ℕ → List ℕ → ℕ → ℕ
first_revoking vs ts k = first (revokes vs ts k) 0 (length ts)

-- "Has the body at least 3 bytes? 1, place its length."
abbrev pub question1 : List ℕ → Question
question1 b = record { yes = leb 3 (length b); number = 1; place = length b }

-- "Is n from 1 to 128? 2, place 0", as 02, note 6 changes it: `limit` is the greatest number of states
abbrev pub question2 : ℕ → List ℕ → Question
question2 limit b = record { yes = leb 1 (states_of b) && leb (states_of b) limit; number = 2; place = 0 }

-- "Is k from 1 to 16? 3, place 1."
abbrev pub question3 : List ℕ → Question
question3 b = record { yes = leb 1 (symbols_of b) && leb (symbols_of b) symbol_limit; number = 3; place = 1 }

-- "Is the length exact? 4, place its length."
abbrev pub question4 : List ℕ → Question
question4 b =
    record { yes = eqb (length b) (3 + states_of b + states_of b * symbols_of b); number = 4; place = length b }

-- "Is the start below n? 5, place 2."
abbrev pub question5 : List ℕ → Question
question5 b = record { yes = ltb (start_of b) (states_of b); number = 5; place = 2 }

-- a question of every number of a list: `wrong` is the index of the first no, or the size; the list stands from
-- `offset` on
abbrev pub of_each : ℕ → ℕ → ℕ → ℕ → Question
of_each number offset wrong size = record { yes = eqb wrong size; number = number; place = offset + wrong }

-- "Is every mark 0, 1 or 2? 6, place the first wrong byte."
abbrev pub question6 : List ℕ → Question
question6 b = of_each 6 3 (first_not_below 3 (drawn_marks b)) (length (drawn_marks b))

-- "Is every next state below n? 7, place the first wrong byte."
abbrev pub question7 : List ℕ → Question
question7 b = of_each 7 (3 + states_of b) (first_not_below (states_of b) (nexts b)) (length (nexts b))

-- "Does a state marked true step only to such states, and likewise false, unreachable states included? 8, place the
-- first wrong next-state byte."
abbrev pub question8 : List ℕ → Question
question8 b = of_each 8 (3 + states_of b) (first_revoking (drawn_marks b) (nexts b) (symbols_of b)) (length (nexts b))

-- "Is the fault set at most 15? 9, place 0."
abbrev pub question9 : ℕ → Question
question9 set = record { yes = leb set all_faults; number = 9; place = 0 }

-- "Is the reading 3 or 6? 10, place 0."
abbrev pub question10 : ℕ → Question
question10 d = record { yes = eqb d 3 || eqb d 6; number = 10; place = 0 }

-- "Is the state asked about below n? 11, place 0."
abbrev pub question11 : ℕ → ℕ → Question
question11 n q = record { yes = ltb q n; number = 11; place = 0 }

-- "Is every message of the trace below k? 12, place the first wrong one."
abbrev pub question12 : ℕ → List ℕ → Question
question12 k w = of_each 12 0 (first_not_below k w) (length w)

-- "Does the answer fit the area lent for it? 13, place 0."
abbrev pub question13 : ℕ → ℕ → Question
question13 size room = record { yes = leb size room; number = 13; place = 0 }

-- "a verdict that is not of the chosen reading is 19 at place 0" (02, note 3)
abbrev pub question19 : ℕ → ℕ → Question
question19 d v = record { yes = ltb v (verdicts_of d); number = 19; place = 0 }

-- questions 1 to 5 are about sizes and the start, 6 to 8 about marks and next states
abbrev pub head_questions : ℕ → List ℕ → List Question
head_questions limit b = question1 b ∷ question2 limit b ∷ question3 b ∷ question4 b ∷ question5 b ∷ []

abbrev pub row_questions : List ℕ → List Question
row_questions b = question6 b ∷ question7 b ∷ question8 b ∷ []

-- "Each call asks 1 to 8 and then those for what it takes"
abbrev pub table_questions : ℕ → List ℕ → List Question
table_questions limit b = head_questions limit b ++ row_questions b

-- the values of a call that answers none
abbrev pub no_values : List ℕ
no_values = []

-- judging a table asks 1 to 8 and answers no values
unfoldable pub judge_answer : ℕ → List ℕ → Answer (List ℕ)
judge_answer limit b = asks (table_questions limit b) no_values

-- 01's number and place of a judgement
abbrev pub judgement : Result (Unit {0}) Refusal → Answer (List ℕ)
judgement r = answer_by (λ _. no_values) r
