-- What the place of a refusal means: what stands there is wrong, and nothing before it is. Said by bytes, messages,
-- states, blocks and entries, and by nothing that is computed to find the place.
use Rattle.std.specs.Prelude.{◌≡◌, cond, List, [], ◌∷◌, ◌++◌, ◌↔◌, ℕ, zero, suc, ◌+◌, ◌*◌, ◌≤◌, ◌<◌, eqb, length}
use Rattle.std.specs.Prelude.{get_or}
use Rattle.theory.specs.Lists.{In}
use Rattle.theory.specs.Automaton.{run, Reaches}
use Rattle.theory.specs.Answer.{Question, Answer, refused}
use Rattle.theory.specs.Monitor.{Monitor, reading}
use Rattle.theory.specs.Faults.{FaultStep}
use Rattle.theory.specs.Distance.{faults_of}
use Rattle.theory.specs.Certificate.{block_of}
use Rattle.monitor.specs.Format.{states_of, symbols_of, monitor_of}
use Rattle.monitor.specs.Questions.{table_questions, judge_answer}
use Rattle.classes.specs.Classify.{classify_answer}
use Rattle.readings.specs.Readings.{step_questions, step_answer, trace_questions, trace_answer}
use Rattle.immunity.specs.Findings.{fault_answer, card_answer}
use Rattle.trust.specs.Trust.{trust_answer}
use Rattle.certificate.specs.Questions.{certificate_questions, certificate_answer}
use Rattle.blocks.specs.Made.{blocks_answer}
use Rattle.collection.specs.Contents.{count_of, offset_of, length_of, rule_of, collection_questions, collection_answer}
use Rattle.writer.specs.Writing.{given_rule, write_questions, write_answer}
use Rattle.demands.specs.DemandOne.{AllYes}

-- of the things from `from` on and before `end`, the one at the place is wrong, and none before it is
pub record FirstWrong (from end : ℕ) (Wrong : ℕ → Type 0) (place : ℕ) : Type 0 where
  pub least : from ≤ place
  pub most : place < end
  pub wrong : Wrong place
  pub before : (i : ℕ) → from ≤ i → i < place → ¬ (Wrong i)

-- the questions of a list that are asked before the one with this number
abbrev pub asked_before : ℕ → List Question → List Question
asked_before number [] = []
asked_before number (q ∷ qs) = cond (eqb q.number number) [] (q ∷ asked_before number qs)

module _ {A : Type 0} where
  -- a call that asks these questions is refused with this number exactly if all asked before are answered yes and
  -- something is wrong; the place is the first that is
  abbrev pub Means : Answer A → List Question → ℕ → ℕ → ℕ → (ℕ → Type 0) → Type 0
  Means answer questions number from end Wrong =
      (place : ℕ)
      → (answer ≡ refused number place) ↔ (AllYes (asked_before number questions) × FirstWrong from end Wrong place)

-- ---- a table

-- byte i of a body
abbrev pub byte_of : List ℕ → ℕ → ℕ
byte_of b i = get_or b i 0

-- "Is every mark 0, 1 or 2?": byte i is none of them
abbrev pub NoMark : List ℕ → ℕ → Type 0
NoMark b i = (¬ (byte_of b i ≡ 0)) × (¬ (byte_of b i ≡ 1)) × (¬ (byte_of b i ≡ 2))

-- "Is every next state below n?": byte i is not
abbrev pub NoState : List ℕ → ℕ → Type 0
NoState b i = states_of b ≤ byte_of b i

-- the mark of a state, as drawn
abbrev pub mark_byte : List ℕ → ℕ → ℕ
mark_byte b q = byte_of b (3 + q)

-- "Does a state marked true step only to such states, and likewise false, unreachable states included?": byte i is the
-- next state of a state marked true or false, and is marked otherwise
pub record Revoked (b : List ℕ) (i : ℕ) : Type 0 where
  pub state : ℕ
  pub message : ℕ
  pub state_in : state < states_of b
  pub message_in : message < symbols_of b
  pub place : i ≡ 3 + states_of b + (state * symbols_of b + message)
  pub marked : 0 < mark_byte b state
  pub otherwise : ¬ (mark_byte b (byte_of b i) ≡ mark_byte b state)

-- ---- a certificate

-- q is the higher of two states of a block that disagree
pub record Disagrees (c : List ℕ) (Apart : ℕ → ℕ → Type 0) (q : ℕ) : Type 0 where
  pub lower : ℕ
  pub is_lower : lower < q
  pub one_block : block_of c lower ≡ block_of c q
  pub apart : Apart lower q

-- "states of a block have equal readings": p and q have not
abbrev pub ReadApart : Monitor → ℕ → ℕ → ℕ → Type 0
ReadApart m d p q = ¬ (reading m d p ≡ reading m d q)

-- "every message takes a block into one block": some message takes p and q into two
abbrev pub StepApart : Monitor → List ℕ → ℕ → ℕ → Type 0
StepApart m c p q =
    (a : ℕ) × (a < m.automaton.symbols) × ¬ (block_of c (m.automaton.next p a) ≡ block_of c (m.automaton.next q a))

-- "from every reachable state each fault step of the set brings sent and received into the same block": p can be
-- reached, and a fault step of the set brings them from p into two
pub record Parted (m : Monitor) (set : ℕ) (c : List ℕ) (p : ℕ) : Type 0 where
  pub reachable : Reaches m.automaton m.start p
  pub step : FaultStep
  pub known : In step (faults_of m set)
  pub apart : ¬ (block_of c (run m.automaton p step.sent) ≡ block_of c (run m.automaton p step.received))

-- what a certificate is asked, after the questions about its table
abbrev pub certificate_asked : ℕ → List ℕ → ℕ → ℕ → List ℕ → List Question
certificate_asked limit b set d c = table_questions limit b ++ certificate_questions set d c (monitor_of b)

-- ---- a collection

-- "is each rule number greater than the one before?": that of entry i is not; the first has none before it
abbrev pub NotGreater : (ℕ → ℕ) → ℕ → Type 0
NotGreater rule zero = ⊥
NotGreater rule (suc i) = rule (suc i) ≤ rule i

-- "does the first body start at 2 + 8 × c, and each later one where the previous ends?": body i does not
abbrev pub Misplaced : List ℕ → ℕ → Type 0
Misplaced file zero = ¬ (offset_of file zero ≡ 2 + 8 * count_of file)
Misplaced file (suc i) = ¬ (offset_of file (suc i) ≡ offset_of file i + length_of file i)

-- ---- the claim

-- a body; `limit` is the greatest number of states
pub record TablePlaces (limit : ℕ) (b : List ℕ) : Type 0 where
  -- 6, "place the first wrong byte": of the n bytes from 3 on
  pub marks : Means (judge_answer limit b) (table_questions limit b) 6 3 (3 + states_of b) (NoMark b)
  -- 7, "place the first wrong byte", and 8, "place the first wrong next-state byte": of those behind the marks
  pub nexts : Means (judge_answer limit b) (table_questions limit b) 7 (3 + states_of b) (length b) (NoState b)
  pub kept : Means (judge_answer limit b) (table_questions limit b) 8 (3 + states_of b) (length b) (Revoked b)

module _ {A : Type 0} where
  -- "Each call asks 1 to 8 and then those for what it takes": with a number up to 8 a call is refused as judging is
  abbrev pub AsJudged : ℕ → List ℕ → Answer A → Type 0
  AsJudged limit b answer =
      (number place : ℕ) → number ≤ 8 → (answer ≡ refused number place) ↔ (judge_answer limit b ≡ refused number place)

-- every call that takes a body
pub record EachCall (limit : ℕ) (b : List ℕ) : Type 0 where
  pub classes : (room : ℕ) → AsJudged limit b (classify_answer limit b room)
  pub step : (d q a : ℕ) → AsJudged limit b (step_answer limit b d q a)
  pub trace : (d : ℕ) (w : List ℕ) → AsJudged limit b (trace_answer limit b d w)
  pub faults : (set d room : ℕ) → AsJudged limit b (fault_answer limit b set d room)
  pub trusts : (set d v room : ℕ) → AsJudged limit b (trust_answer limit b set d v room)
  pub certificate : (set d : ℕ) (c : List ℕ) → AsJudged limit b (certificate_answer limit b set d c)
  pub blocks : (d room : ℕ) → AsJudged limit b (blocks_answer limit b d room)
  pub card : AsJudged limit b (card_answer limit b).summary

-- a body and a certificate
pub record CertificatePlaces (limit : ℕ) (b : List ℕ) (set d : ℕ) (c : List ℕ) : Type 0 where
  -- 15, "the place is the lowest state at fault"
  pub numbers : Means (certificate_answer limit b set d c) (certificate_asked limit b set d c) 15 0 (states_of b)
      (λ q. states_of b ≤ block_of c q)
  -- "for 16 and 17 the lowest that disagrees with a lower state of its block"
  pub readings : Means (certificate_answer limit b set d c) (certificate_asked limit b set d c) 16 0 (states_of b)
      (Disagrees c (ReadApart (monitor_of b) d))
  pub messages : Means (certificate_answer limit b set d c) (certificate_asked limit b set d c) 17 0 (states_of b)
      (Disagrees c (StepApart (monitor_of b) c))
  -- "for 18 the state before the fault", the lowest
  pub faults : Means (certificate_answer limit b set d c) (certificate_asked limit b set d c) 18 0 (states_of b)
      (Parted (monitor_of b) set c)

-- a body and a collection file, each of any content and length, and what else a call takes
pub record Places (limit : ℕ) (b file : List ℕ) : Type 0 where
  pub table : TablePlaces limit b
  pub calls : EachCall limit b
  -- 12, "place the first wrong one": of the messages of a trace; "its one message has place 0", of a step
  pub trace : (d : ℕ) (w : List ℕ)
      → Means (trace_answer limit b d w) (table_questions limit b ++ trace_questions d w (monitor_of b)) 12 0 (length w)
      (λ i. symbols_of b ≤ get_or w i 0)
  pub step : (d q a : ℕ)
      → Means (step_answer limit b d q a) (table_questions limit b ++ step_questions d q a (monitor_of b)) 12 0 1
      (λ i. symbols_of b ≤ a)
  pub certificate : (set d : ℕ) (c : List ℕ) → CertificatePlaces limit b set d c
  -- 23 and 24: "their place is the entry, from 0"
  pub rules : Means (collection_answer file) (collection_questions file) 23 0 (count_of file)
      (NotGreater (rule_of file))
  pub bodies : Means (collection_answer file) (collection_questions file) 24 0 (count_of file) (Misplaced file)
  -- 23 of the writer: "for 23 and bodies the place is the entry"
  pub given_rules : (rules lengths bodies : List ℕ) (room : ℕ)
      → Means (write_answer limit rules lengths bodies room) (write_questions limit rules lengths bodies room) 23
      0 (length rules) (NotGreater (given_rule rules))
