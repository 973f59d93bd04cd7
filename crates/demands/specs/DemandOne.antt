-- Demand 1: whatever the bytes, the questions decide, the first no is the answer, and a refusal writes nothing.
use Rattle.std.specs.Prelude.{◌≡◌, true, false, List, [], ◌∷◌, ◌++◌, ◌↔◌, ℕ, ◌<◌, length, get_or}
use Rattle.theory.specs.Lists.{In}
use Rattle.theory.specs.Answer.{Question, Answer, refused, answered, written}
use Rattle.theory.specs.Faults.{kinds}
use Rattle.theory.specs.Computed.{first_witness, first_misreading}
use Rattle.theory.specs.Certificate.{made_blocks}
use Rattle.monitor.specs.Format.{monitor_of}
use Rattle.monitor.specs.Questions.{table_questions, question13, no_values, judge_answer}
use Rattle.collection.specs.Contents.{count_of, collection_questions, collection_answer}
use Rattle.writer.specs.Writing.{file_of, write_questions, write_answer}
use Rattle.classes.specs.Classify.{class_list, classify_questions, classify_figures, classify_answer}
use Rattle.readings.specs.Readings.{step_questions, step_figures, step_answer, trace_questions, trace_figures}
use Rattle.readings.specs.Readings.{trace_answer}
use Rattle.witness.specs.Figures.{FaultFigures}
use Rattle.immunity.specs.Findings.{table_figures, fault_questions, fault_answer, fault_trace}
use Rattle.immunity.specs.Findings.{CardAnswer, summary_figures, column_figures, card_answer}
use Rattle.trust.specs.Trust.{trust_questions, trust_figures, trust_answer, trust_trace}
use Rattle.certificate.specs.Questions.{certificate_questions, certificate_answer}
use Rattle.blocks.specs.Made.{blocks_questions, blocks_figures, blocks_answer}
use Rattle.lines.specs.Line.{rule_line, line_answer}
use Rattle.listing_text.specs.Listing.{listing_text, listing_answer}

-- every question of the list is answered yes
abbrev pub AllYes : List Question → Type 0
AllYes questions = (q : Question) → In q questions → q.yes ≡ true

-- some questions are answered yes, and the next one is answered no and has this number and place
pub record FirstNo (questions : List Question) (number place : ℕ) : Type 0 where
  pub before : List Question
  pub asked : Question
  pub after : List Question
  pub in_order : questions ≡ before ++ (asked ∷ after)
  pub before_yes : AllYes before
  pub asked_no : asked.yes ≡ false
  pub its_number : asked.number ≡ number
  pub its_place : asked.place ≡ place

-- how a list of questions is answered, `values` being what an accepted one answers
pub record Judged {A : Type 0} (questions : List Question) (values : A) (answer : Answer A) : Type 0 where
  -- accepted exactly if every question is answered yes
  pub accepts : (answer ≡ answered values) ↔ AllYes questions
  -- refused exactly with the number and the place of the first no
  pub refuses : (number place : ℕ) → (answer ≡ refused number place) ↔ FirstNo questions number place

-- a call that is lent an area, by its questions, its values, its answer and the bytes of it
pub record Lent {A : Type 0} (questions : List Question) (values : A) (answer : Answer A) (bytes area : List ℕ) : Type 0
  where
    pub judged : Judged questions values answer
    -- a refusal leaves the area as it was
    pub untouched : (number place : ℕ) → answer ≡ refused number place → written answer bytes area ≡ area
    -- bytes that do not fit are refused
    pub short : length area < length bytes → (number : ℕ) × (place : ℕ) × (answer ≡ refused number place)

-- the column of rank c of a card; where there is none, a refusal with 0, which is no question's number
abbrev pub column_of : CardAnswer → ℕ → Answer FaultFigures
column_of card c = get_or card.columns c (refused 0 0)

-- a body, a collection file, an area, a certificate, a trace, and lists and bodies to be written, each of any content
-- and length; `limit` is the greatest number of states
pub record DemandOne (limit : ℕ) (body file area : List ℕ) : Type 0 where
  -- a body is asked questions 1 to 8
  pub table : Judged (table_questions limit body) no_values (judge_answer limit body)
  -- after those a step is asked 10, 11, 12, and a trace 10, 12
  pub step : (d q a : ℕ)
      → Judged (table_questions limit body ++ step_questions d q a (monitor_of body))
      (step_figures d q a (monitor_of body))
      (step_answer limit body d q a)
  pub trace : (d : ℕ) (w : List ℕ)
      → Judged (table_questions limit body ++ trace_questions d w (monitor_of body))
      (trace_figures d w (monitor_of body))
      (trace_answer limit body d w)
  -- a certificate 9, 10 and 14 to 18
  pub certificate : (set d : ℕ) (c : List ℕ)
      → Judged (table_questions limit body ++ certificate_questions set d c (monitor_of body)) no_values
      (certificate_answer limit body set d c)
  -- a card none, for its summary and for each of its columns
  pub summary : Judged (table_questions limit body) (summary_figures (monitor_of body)) (card_answer limit body).summary
  pub column : (c : ℕ) → c < kinds
      → Judged (table_questions limit body) (column_figures c (monitor_of body)) (column_of (card_answer limit body) c)
  -- a collection is asked questions 20 to 25, and answers its count
  pub collection : Judged (collection_questions file) (count_of file ∷ []) (collection_answer file)
  -- the calls that are lent an area: after 1 to 8, classes are asked 13
  pub classes : Lent (table_questions limit body ++ classify_questions (length area) (monitor_of body))
      (classify_figures (monitor_of body))
      (classify_answer limit body (length area)) (class_list (monitor_of body)) area
  -- the fault question 9, 10, 13, where 13 is asked of the first witness
  pub faults : (set d : ℕ)
      → Lent (table_questions limit body ++ fault_questions set d (first_witness (monitor_of body) d set) (length area))
      (table_figures (monitor_of body) d set)
      (fault_answer limit body set d (length area)) (fault_trace body set d) area
  -- the question of trust 9, 10, 19, 13
  pub trusts : (set d v : ℕ)
      → Lent
      (table_questions limit body ++ trust_questions set d v (first_misreading (monitor_of body) d set v) (length area))
      (trust_figures (monitor_of body) d set v)
      (trust_answer limit body set d v (length area)) (trust_trace body set d v) area
  -- the blocks that are made 10, 13
  pub blocks : (d : ℕ)
      → Lent (table_questions limit body ++ blocks_questions d (length area) (monitor_of body))
      (blocks_figures (monitor_of body))
      (blocks_answer limit body d (length area)) (made_blocks (monitor_of body) d) area
  -- a line of the listing, which tells a refusal of the body as well, is asked 13 alone
  pub line : (rule : ℕ)
      → Lent (question13 (length (rule_line limit rule body)) (length area) ∷ [])
      (length (rule_line limit rule body) ∷ [])
      (line_answer limit rule body (length area)) (rule_line limit rule body) area
  -- the whole listing of a file, which tells a refusal of the collection as well, is asked 13 alone
  pub listing : Lent (question13 (length (listing_text limit file)) (length area) ∷ [])
      (length (listing_text limit file) ∷ [])
      (listing_answer limit file (length area)) (listing_text limit file) area
  -- what is handed to the writer is asked 27, 21, 23, 28, each body 1 to 8, and 13, and answers the file's length
  pub writer : (rules lengths bodies : List ℕ)
      → Lent (write_questions limit rules lengths bodies (length area)) (length (file_of rules lengths bodies) ∷ [])
      (write_answer limit rules lengths bodies (length area)) (file_of rules lengths bodies) area
