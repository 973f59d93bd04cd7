-- Tables of 128 states (02, note 6): another limit on the number of states, as one claim about any two limits.
use Rattle.std.specs.Prelude.{◌≡◌, List, ◌↔◌, ℕ, ◌+◌, ◌*◌, ◌≤◌, ◌<◌, length}
use Rattle.theory.specs.Answer.{Answer, answered, written}
use Rattle.theory.specs.Monitor.{symbol_limit}
use Rattle.theory.specs.Certificate.{made_blocks}
use Rattle.monitor.specs.Format.{states_of, monitor_of}
use Rattle.monitor.specs.Questions.{no_values, judge_answer}
use Rattle.writer.specs.Writing.{given_body, file_of, write_answer}
use Rattle.classes.specs.Classify.{class_list, classify_answer}
use Rattle.readings.specs.Readings.{step_answer, trace_answer}
use Rattle.immunity.specs.Findings.{fault_answer, fault_trace, card_answer}
use Rattle.trust.specs.Trust.{trust_answer, trust_trace}
use Rattle.certificate.specs.Questions.{certificate_answer}
use Rattle.blocks.specs.Made.{blocks_answer}
use Rattle.lines.specs.Line.{rule_line, line_answer}

-- n states are within both limits, or within neither
abbrev pub Alike : ℕ → ℕ → ℕ → Type 0
Alike limit other n = (n ≤ limit) ↔ (n ≤ other)

-- a call that is lent an area, by its answer and the bytes of it, each under a limit: both are the same under two
pub record SameLent {A : Type 0} (limit other : ℕ) (answer : ℕ → ℕ → Answer A) (bytes : ℕ → List ℕ) : Type 0 where
  pub answers : (room : ℕ) → answer limit room ≡ answer other room
  pub areas : (area : List ℕ) → written (answer limit (length area)) (bytes limit) area
      ≡ written (answer other (length area)) (bytes other) area

-- the result of a table: what every call that takes its body answers and writes is the same under two limits
pub record SameResult (limit other : ℕ) (body : List ℕ) : Type 0 where
  pub judged : judge_answer limit body ≡ judge_answer other body
  pub classes : SameLent limit other (λ l. classify_answer l body) (λ l. class_list (monitor_of body))
  pub step : (d q a : ℕ) → step_answer limit body d q a ≡ step_answer other body d q a
  pub trace : (d : ℕ) (w : List ℕ) → trace_answer limit body d w ≡ trace_answer other body d w
  pub faults : (set d : ℕ) → SameLent limit other (λ l. fault_answer l body set d) (λ l. fault_trace body set d)
  pub trusts : (set d v : ℕ) → SameLent limit other (λ l. trust_answer l body set d v) (λ l. trust_trace body set d v)
  pub certificate : (set d : ℕ) (c : List ℕ)
      → certificate_answer limit body set d c ≡ certificate_answer other body set d c
  pub blocks : (d : ℕ) → SameLent limit other (λ l. blocks_answer l body d) (λ l. made_blocks (monitor_of body) d)
  pub card : card_answer limit body ≡ card_answer other body
  pub line : (rule : ℕ) → SameLent limit other (λ l. line_answer l rule body) (λ l. rule_line l rule body)
  pub text : (rule : ℕ) → rule_line limit rule body ≡ rule_line other rule body

-- what the writer answers and writes is the same under two limits
abbrev pub SameFile : ℕ → ℕ → List ℕ → List ℕ → List ℕ → Type 0
SameFile limit other rules lengths bodies =
    SameLent limit other (λ l. write_answer l rules lengths bodies) (λ l. file_of rules lengths bodies)

pub record Limits (limit other : ℕ) : Type 0 where
  -- "at most 2,179 bytes", where the limit is 128
  pub longest : (body : List ℕ) → judge_answer limit body ≡ answered no_values
      → length body ≤ 3 + limit + limit * symbol_limit
  -- a table has the same result under both limits, accepted or not, unless its number of states is within one alone
  pub table : (body : List ℕ) → Alike limit other (states_of body) → SameResult limit other body
  -- and so has what is handed to the writer
  pub writer : (rules lengths bodies : List ℕ)
      → ((i : ℕ) → i < length rules → Alike limit other (states_of (given_body lengths bodies i)))
      → SameFile limit other rules lengths bodies
  -- "every table accepted so far keeps its result" under a greater limit
  pub kept : limit ≤ other → (body : List ℕ) → judge_answer limit body ≡ answered no_values
      → SameResult limit other body
  -- and so does every file written so far
  pub kept_file : limit ≤ other → (rules lengths bodies : List ℕ) (room : ℕ) {values : List ℕ}
      → write_answer limit rules lengths bodies room ≡ answered values → SameFile limit other rules lengths bodies
