-- What holds of an accepted body: as drawn it is well formed, and so it is with its marks settled.
use mathlib.Core.Path.{◌≡◌, sym}
use mathlib.Core.List.{List, [], ◌∷◌, ◌++◌}
use Prim.Native.Nat.{ℕ, ◌+◌, ◌*◌}
use native.Mathlib.Nat.{le_of_suc-le-suc}
use native.Mathlib.Omega.{arith}
use lib.Arith.{digits_lt}
use lib.ListN.{length}
use borrow.Author.Tests.{eqb-true}
use Rattle.theory.specs.Answer.{Question, answered, refused, asks, written}
use Rattle.theory.specs.Monitor.{WellFormed}
use Rattle.theory.proofs.Below.{first_none}
use Rattle.theory.proofs.Answer.{asks_yes, asks_both, asks_refused, asks_passed, untouched}
use Rattle.monitor.specs.Format.{states_of, symbols_of, start_of, drawn_marks, marks, nexts, drawn_of, Table}
use Rattle.monitor.specs.Questions.{first_not_below, revokes, first_revoking, question6, question7, question8, head_questions, row_questions, table_questions}
use Rattle.monitor.specs.Questions.{judge_answer}
use Rattle.monitor.proofs.Revoking.{verdict_stays}
use Rattle.monitor.proofs.Rows.{next_inside}
use Rattle.monitor.proofs.Head.{Head, passed_head}
use Rattle.monitor.proofs.Marks.{settled_table}
use Rattle.monitor.proofs.Body.{marks_length, nexts_length, all_below, rows_of}

-- what questions 6, 7 and 8 leave, whatever the limit
pub well_formed_of : {limit : ℕ} {b : List ℕ} → Head limit b → first_not_below 3 (drawn_marks b) ≡ length (drawn_marks b)
    → first_not_below (states_of b) (nexts b) ≡ length (nexts b)
    → first_revoking (drawn_marks b) (nexts b) (symbols_of b) ≡ length (nexts b) → WellFormed limit (drawn_of b)
well_formed_of {limit} {b} h six seven eight = record {
  states_most = h.states_most;
  symbols_least = h.symbols_least;
  symbols_most = h.symbols_most;
  start_in = h.start_in;
  closed = next_inside (states_of b) (symbols_of b) (nexts b) (nexts_length h) (all_below (states_of b) (nexts b) seven);
  verdict_in = λ q l. le_of_suc-le-suc (all_below 3 (drawn_marks b) six q (omega (arith, marks_length h)));
  verdict_kept = λ q a l g m.
      verdict_stays (drawn_marks b) (nexts b) q (symbols_of b) (omega arith) (omega arith)
      (first_none (revokes (drawn_marks b) (nexts b) (symbols_of b)) 0 (length (nexts b)) (q * symbols_of b + a) (omega arith) (omega arith)
      (omega (arith, nexts_length h, digits_lt l g))) m;
}

module _ (limit : ℕ) (b : List ℕ) where
  pub accepted_head : judge_answer limit b ≡ answered [] → Head limit b
  unfolding judge_answer
  accepted_head e = passed_head limit b (asks_both (head_questions limit b) (row_questions b) [] e).0

  -- the table as drawn
  pub accepted_drawn : judge_answer limit b ≡ answered [] → Table limit (states_of b) (symbols_of b) (start_of b) (drawn_marks b) (nexts b)
  unfolding judge_answer
  accepted_drawn e =
      let h = accepted_head e in
      let q₆ = asks_yes (question6 b) (question7 b ∷ question8 b ∷ []) [] (asks_both (head_questions limit b) (row_questions b) [] e).1 in
      let q₇ = asks_yes (question7 b) (question8 b ∷ []) [] q₆.1 in
      let q₈ = asks_yes (question8 b) [] [] q₇.1 in
      let six = eqb-true (first_not_below 3 (drawn_marks b)) (length (drawn_marks b)) q₆.0 in
      let seven = eqb-true (first_not_below (states_of b) (nexts b)) (length (nexts b)) q₇.0 in
      let eight = eqb-true (first_revoking (drawn_marks b) (nexts b) (symbols_of b)) (length (nexts b)) q₈.0 in
      record { rows = rows_of h seven; marks_length = marks_length h; well_formed = well_formed_of h six seven eight }

  -- and with its marks settled
  pub accepted_table : judge_answer limit b ≡ answered [] → Table limit (states_of b) (symbols_of b) (start_of b) (marks b) (nexts b)
  accepted_table e = settled_table (accepted_drawn e)

-- ---- what a call answers of a refused and of an accepted body

pub refused_asks : {A : Type 0} (limit : ℕ) (b : List ℕ) (more : List Question) (values : A) {number place : ℕ} → judge_answer limit b ≡ refused number place
    → asks (table_questions limit b ++ more) values ≡ refused number place
unfolding judge_answer
refused_asks limit b more values e = asks_refused (table_questions limit b) more values [] e

pub accepted_asks : {A : Type 0} (limit : ℕ) (b : List ℕ) (more : List Question) (values : A) → judge_answer limit b ≡ answered []
    → asks (table_questions limit b ++ more) values ≡ asks more values
unfolding judge_answer
accepted_asks limit b more values e = asks_passed (table_questions limit b) more values [] e

-- a refused body leaves the area as it was
pub refused_writes : {A : Type 0} (limit : ℕ) (b : List ℕ) (more : List Question) (values : A) (bytes area : List ℕ) {number place : ℕ}
    → judge_answer limit b ≡ refused number place
    → (refused number place ≡ asks (table_questions limit b ++ more) values) × (area ≡ written (asks (table_questions limit b ++ more) values) bytes area)
refused_writes limit b more values bytes area e = (let no = refused_asks limit b more values e in (sym no, untouched bytes area no))
