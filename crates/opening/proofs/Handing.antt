-- What opening hands out of a body, and what a call answers by it.
use mathlib.Core.Path.{◌≡◌, sym, ap, ◌∙◌}
use mathlib.Core.List.{List, [], ◌++◌}
use Prim.Native.Nat.{ℕ}
use lib.ListN.{length, take, drop}
use lib.Seq.{take_at}
use Rattle.std.specs.Prelude.{Result, Ok}
use Rattle.theory.specs.Answer.{Question, Answer, answered, asks, written}
use Rattle.theory.specs.Monitor.{Monitor}
use Rattle.theory.proofs.Answer.{asks_refused, asks_values, asks_other, asks_refuses, untouched, written_over}
use Rattle.basics.specs.Refusals.{refusal}
use Rattle.basics.specs.declared.refusal.Refusal.{Refusal}
use Rattle.monitor.specs.Format.{states_of, symbols_of, start_of, drawn_marks, settled_marks, marks, nexts, table_of, monitor_of, Table}
use Rattle.monitor.specs.Questions.{table_questions, judge_answer}
use Rattle.monitor.specs.declared.Shape.{Shape}
use Rattle.monitor.proofs.Accepted.{accepted_drawn, accepted_table, accepted_asks, refused_asks}
use Rattle.monitor.specs.Tables.{monitor_of_table}
use Rattle.monitor.specs.declared.table.Table as declared
use Rattle.opening.specs.Opens.{shape_of, open_answer, opened, Opens, open_table_answer, opened_table}

-- what is known of an accepted body once it is opened: its table, with the settled marks in the first places of an area
pub record Accepts (limit : ℕ) (b : List ℕ) (t : Shape) (space : List ℕ) : Type 0 where
  pub accepted : judge_answer limit b ≡ answered []
  pub table : Table limit t.states t.symbols t.start (take t.states space) (nexts b)
  pub monitor : table_of t.states t.symbols t.start (take t.states space) (nexts b) ≡ monitor_of b

-- ---- opening

module _ (limit : ℕ) (b : List ℕ) where
  -- a refused body: the answer, and the area as it was
  pub opens_not : (x : Refusal) → refusal x ≡ judge_answer limit b → (area : List ℕ) → (r : Result Shape Refusal) → opened r ≡ refusal x
      → Opens limit b area r area
  unfolding open_answer
  opens_not x e area r h =
      let no = refused_asks limit b [] (shape_of b) (sym e) in
      record { shape = h ∙ sym no; area_after = untouched _ area no }

  module _ (accepted : judge_answer limit b ≡ answered []) {n k s : ℕ} (en : n ≡ states_of b) (ek : k ≡ symbols_of b) (es : s ≡ start_of b)
      {vs ts : List ℕ} (ev : vs ≡ drawn_marks b) (et : ts ≡ nexts b) where
    -- the table as drawn, which settling asks for
    pub drawn_table : Table limit n k s vs ts
    drawn_table = rw (en, ek, es, ev, et) (accepted_drawn limit b accepted)

    pub opens_table : (before : List ℕ) {after : List ℕ} → after ≡ settled_marks n k vs ts ++ drop n before
        → Opens limit b before (Ok (record { states = n; symbols = k; start = s })) after
    unfolding open_answer
    opens_table before settled =
        let yes = accepted_asks limit b [] (shape_of b) accepted in
        let size = (accepted_table limit b accepted).marks_length in
        record {
          shape = rw (en, ek, es) (sym yes);
          area_after = settled ∙ rw (en, ek, ev, et) (ap (λ (m : ℕ). marks b ++ drop m before) (sym size) ∙ written_over (marks b) before yes);
        }

-- ---- what opening says of the table

module _ (limit : ℕ) (b space : List ℕ) {before : List ℕ} {r : Result Shape Refusal} (o : Opens limit b before r space) where
  pub opened_no : (x : Refusal) → opened r ≡ refusal x → refusal x ≡ open_table_answer limit b
  unfolding open_answer open_table_answer
  opened_no x e = sym (asks_refuses (table_questions limit b) (shape_of b) (monitor_of b) (sym o.shape ∙ e))

  pub opened_yes : (t : Shape) → opened r ≡ answered t → Accepts limit b t space
  unfolding open_answer judge_answer
  opened_yes t e =
      let yes : asks (table_questions limit b) (shape_of b) ≡ answered t = sym o.shape ∙ e in
      let accepted = asks_other (table_questions limit b) (shape_of b) [] yes in
      let table = accepted_table limit b accepted in
      let shape : t ≡ shape_of b = sym (asks_values (table_questions limit b) (shape_of b) yes) in
      let marks_are : take (states_of b) space ≡ marks b =
      ap (take (states_of b)) (o.area_after ∙ sym (written_over (marks b) before yes))
      ∙ take_at (marks b) (drop (length (marks b)) before) (states_of b) table.marks_length in
      record {
        accepted = accepted;
        table = rw (shape, marks_are) table;
        monitor = rw (shape, marks_are);
      }

pub opened_monitor : {limit : ℕ} {b : List ℕ} {t : Shape} {space : List ℕ} → Accepts limit b t space
    → answered (table_of t.states t.symbols t.start (take t.states space) (nexts b)) ≡ open_table_answer limit b
unfolding open_table_answer judge_answer
opened_monitor {limit} {b} h = ap answered h.monitor ∙ sym (asks_other (table_questions limit b) [] (monitor_of b) h.accepted)

-- ---- what a call answers by the table opened: r is what opening it answers

module _ (limit : ℕ) (b : List ℕ) (r : Result declared.Table Refusal) (o : opened_table r ≡ open_table_answer limit b) where
  -- a refused body is refused whatever else is asked
  module _ (x : Refusal) (e : opened_table r ≡ refusal x) {A : Type 0} (questions : List Question) (values : A) where
    pub no_asks : refusal x ≡ asks (table_questions limit b ++ questions) values
    unfolding open_table_answer
    no_asks = sym (asks_refused (table_questions limit b) questions values (monitor_of b) (sym o ∙ e))

    pub no_writes : (bytes area : List ℕ) → area ≡ written (asks (table_questions limit b ++ questions) values) bytes area
    no_writes bytes area = untouched bytes area (sym no_asks)

  -- an accepted one by its own questions of its monitor, and by the bytes that it writes
  module _ (t : declared.Table) (e : opened_table r ≡ answered (monitor_of_table t)) where
    pub table_monitor : monitor_of_table t ≡ monitor_of b
    unfolding open_table_answer
    table_monitor = sym (asks_values (table_questions limit b) (monitor_of b) (sym o ∙ e))

    pub table_accepted : judge_answer limit b ≡ answered []
    unfolding open_table_answer judge_answer
    table_accepted = asks_other (table_questions limit b) (monitor_of b) [] (sym o ∙ e)

    module _ {A : Type 0} (questions : Monitor → List Question) (figures : Monitor → A) where
      pub table_asks : asks (questions (monitor_of_table t)) (figures (monitor_of_table t))
          ≡ asks (table_questions limit b ++ questions (monitor_of b)) (figures (monitor_of b))
      table_asks =
          ap (λ (m : Monitor). asks (questions m) (figures m)) table_monitor
          ∙ sym (accepted_asks limit b (questions (monitor_of b)) (figures (monitor_of b)) table_accepted)

      pub table_writes : (bytes : Monitor → List ℕ) (area : List ℕ) {answer : Answer A} {after : List ℕ}
          → answer ≡ asks (questions (monitor_of_table t)) (figures (monitor_of_table t)) → after ≡ written answer (bytes (monitor_of_table t)) area
          → (answer ≡ asks (table_questions limit b ++ questions (monitor_of b)) (figures (monitor_of b)))
          × (after ≡ written (asks (table_questions limit b ++ questions (monitor_of b)) (figures (monitor_of b))) (bytes (monitor_of b)) area)
      table_writes bytes area {answer} ea eb =
          let same = ea ∙ table_asks in
          (same, eb ∙ ap (λ (m : Monitor). written answer (bytes m) area) table_monitor ∙ ap (λ (a : Answer A). written a (bytes (monitor_of b)) area) same)
