-- The limit on the states decides question 2 and nothing else.
use mathlib.Core.Path.{◌≡◌, refl, sym, ap, ◌∙◌}
use mathlib.Core.Bool.{Bool, true, false}
use mathlib.Core.List.{List, map}
use mathlib.Core.Logic.{inl, inr}
use Prim.Native.Nat.{ℕ, ◌+◌, ◌*◌, ◌≤◌, ◌<◌}
use native.Mathlib.Nat.{mul-le-mul}
use native.Mathlib.Omega.{arith}
use lib.Dec.{leb}
use lib.ListN.{length}
use borrow.Author.Tests.{leb-true, leb-false, le-leb}
use Rattle.theory.specs.Answer.{Answer, answered}
use Rattle.theory.specs.Monitor.{symbol_limit}
use Rattle.theory.proofs.Lists.{each_in, each_same}
use Rattle.theory.proofs.Below.{and_right}
use Rattle.theory.proofs.Answer.{answered_all}
use Rattle.monitor.specs.Format.{states_of}
use Rattle.monitor.specs.Questions.{question2, table_questions, no_values, judge_answer}
use Rattle.monitor.proofs.Accepted.{accepted_head}
use Rattle.writer.specs.Writing.{given_body, placed_at, body_questions, given_questions, write_answer}
use Rattle.writer.proofs.Given.{written_asked}
use Rattle.classes.specs.Classify.{classify_answer}
use Rattle.readings.specs.Readings.{step_answer, trace_answer}
use Rattle.immunity.specs.Findings.{fault_answer, card_answer}
use Rattle.trust.specs.Trust.{trust_answer}
use Rattle.certificate.specs.Questions.{certificate_answer}
use Rattle.blocks.specs.Made.{blocks_answer}
use Rattle.lines.specs.Line.{rule_line, line_answer}
use Rattle.demands.specs.Limits.{Alike, SameLent, SameResult, SameFile, Limits}

-- what is within the one limit is within the other
within_same : (limit other n : ℕ) → Alike limit other n → leb n limit ≡ leb n other
within_same limit other n alike = go (leb n limit) (leb n other) refl refl
  where
    go : (x y : Bool) → leb n limit ≡ x → leb n other ≡ y → x ≡ y
    go true y e f = sym (le-leb n other (alike.0 (leb-true n limit e))) ∙ f
    go false true e f = absurd (omega (arith, leb-false n limit e, alike.1 (leb-true n other f)))
    go false false e f = refl

-- under a greater limit, and by a number that is within the lesser
greater_alike : {limit other n : ℕ} → limit ≤ other → n ≤ limit → Alike limit other n
greater_alike m l = (λ _. omega (arith, m, l), λ _. l)

-- a call that is lent an area: its area hangs on the answer and the bytes
lent_same : {A : Type 0} {limit other : ℕ} {answer : ℕ → ℕ → Answer A} {bytes : ℕ → List ℕ} → ((room : ℕ) → answer limit room ≡ answer other room)
    → bytes limit ≡ bytes other → SameLent limit other answer bytes
lent_same same e = record { answers = same; areas = λ area. rw (same (length area), e) }

module _ (limit other : ℕ) (b : List ℕ) (alike : Alike limit other (states_of b)) where
  -- the answer of question 2, and so questions 1 to 8, are the same
  two_same : leb (states_of b) limit ≡ leb (states_of b) other
  two_same = within_same limit other (states_of b) alike

  questions_same : table_questions limit b ≡ table_questions other b
  questions_same = rw two_same

  judged_same : judge_answer limit b ≡ judge_answer other b
  unfolding judge_answer
  judged_same = rw two_same

  line_same : (rule : ℕ) → rule_line limit rule b ≡ rule_line other rule b
  unfolding rule_line
  line_same rule = rw judged_same

  result_same : SameResult limit other b
  unfolding classify_answer step_answer trace_answer fault_answer trust_answer certificate_answer blocks_answer card_answer line_answer
  result_same = record {
    judged = judged_same;
    classes = lent_same (λ room. rw two_same) refl;
    step = λ d q a. rw two_same;
    trace = λ d w. rw two_same;
    faults = λ set d. lent_same (λ room. rw two_same) refl;
    trusts = λ set d v. lent_same (λ room. rw two_same) refl;
    certificate = λ set d c. rw two_same;
    blocks = λ d. lent_same (λ room. rw two_same) refl;
    card = rw two_same;
    line = λ rule. lent_same (λ room. rw (line_same rule)) (line_same rule);
    text = line_same;
  }

module _ (limit other : ℕ) (rules lengths bodies : List ℕ) where
  abbrev given : ℕ → List ℕ
  given = given_body lengths bodies

  file_same : ((i : ℕ) → i < length rules → Alike limit other (states_of (given i))) → SameFile limit other rules lengths bodies
  unfolding write_answer
  file_same alike =
      let e = each_same (length rules) (λ i. body_questions limit (given i) i) (λ i. body_questions other (given i) i)
      (λ i l. ap (map (placed_at i)) (questions_same limit other (given i) (alike i l))) in
      lent_same (λ room. rw e) refl

  -- what was written is within the limit
  written_within : (room : ℕ) {values : List ℕ} → write_answer limit rules lengths bodies room ≡ answered values → (i : ℕ) → i < length rules
      → states_of (given i) ≤ limit
  written_within room e i l =
      let n = states_of (given i) in
      let q = placed_at i (question2 limit (given i)) in
      let asked = each_in q (length rules) (λ j. body_questions limit (given j) j) i l (inr (inl refl)) in
      let yes = answered_all (given_questions limit rules lengths bodies) no_values (written_asked limit rules lengths bodies room e) q
      (inr (inr (inr (inr asked)))) in
      leb-true n limit (and_right (leb 1 n) (leb n limit) yes)

-- "at most 2,179 bytes"
longest : (limit : ℕ) (b : List ℕ) → judge_answer limit b ≡ answered no_values → length b ≤ 3 + limit + limit * symbol_limit
longest limit b e =
    let h = accepted_head limit b e in
    omega (arith, h.exact, h.states_most, mul-le-mul h.states_most h.symbols_most)

pub limits : (limit other : ℕ) → Limits limit other
limits limit other = record {
  longest = longest limit;
  table = result_same limit other;
  writer = file_same limit other;
  kept = λ m b e. result_same limit other b (greater_alike m (accepted_head limit b e).states_most);
  kept_file = λ m rules lengths bodies room e.
      file_same limit other rules lengths bodies (λ i l. greater_alike m (written_within limit other rules lengths bodies room e i l));
}
