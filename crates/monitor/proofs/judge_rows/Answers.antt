-- `judge_rows` meets its contract: where the marks and then the next states are right, the questions that are left.
use mathlib.Core.Path.{◌≡◌, sym, ◌∙◌}
use mathlib.Core.List.{List, [], ◌∷◌}
use Prim.Native.Nat.{ℕ}
use borrow.Author.Tests.{eqb-true}
use Rattle.theory.specs.Answer.{Question, asks}
use Rattle.theory.specs.Monitor.{state_limit}
use Rattle.monitor.specs.Questions.{not_below, question7, question8, row_questions, no_values}
use Rattle.monitor.proofs.Head.{Head, passed_head}
use Rattle.monitor.proofs.Body.{marks_length, less_apart, all_passed, lent_passed, rows_of}
use Rattle.monitor.proofs.judge_rows.Goals.{Else-next-nexts, Else-mark-marks, Start}
use Rattle.monitor.proofs.judge_rows.Goals as goal

head : (s : Start) → Head state_limit s.args.body.now
head s = passed_head state_limit s.args.body.now s.requires

-- the first questions are answered yes, these are left
abbrev Left : List ℕ → List Question → Type 0
Left b questions = asks (row_questions b) no_values ≡ asks questions no_values

-- question 6 was answered yes
pub six : (c : Else-mark-marks) → (let b = c.args.body.now in Left b (question7 b ∷ question8 b ∷ []))
six c =
    let marks = c.drawn_marks-marks.ensures in
    rw (lent_passed (not_below 3) marks c.first_not_below-mark.ensures c.if-mark-marks.false)

-- and then question 7
pub seven : (c : Else-next-nexts) → (let b = c.args.body.now in Left b (question7 b ∷ question8 b ∷ []) → Left b (question8 b ∷ []))
seven c six =
    let nexts = c.next_states-nexts.ensures in
    six ∙ rw (lent_passed (not_below _) nexts c.first_not_below-next.ensures c.if-next-nexts.false)

pub returns-then-next-nexts : goal.returns-then-next-nexts
returns-then-next-nexts c =
    let nexts = c.next_states-nexts.ensures in
    sym (six (goal.at.returns-then-next-nexts c).Else-mark-marks
    ∙ rw (c.at-then-next-nexts.ensures, ← nexts, ← c.first_not_below-next.ensures, less_apart c.if-next-nexts.true))

pub invariant_of-graph : goal.invariant_of-graph
invariant_of-graph c =
    let h = head (goal.at.invariant_of-graph c).Start in
    let nexts = c.next_states-nexts.ensures in
    let right = lent_passed (not_below _) nexts c.first_not_below-next.ensures c.if-next-nexts.false in
    rw nexts (record { rows = rows_of h (eqb-true _ _ right) })

pub first_revoking-revoking-requires : goal.first_revoking-revoking-requires
first_revoking-revoking-requires c =
    let h = head (goal.at.first_revoking-revoking-requires c).Start in
    rw (c.drawn_marks-marks.ensures, marks_length h)

pub returns-then-revoking-nexts : goal.returns-then-revoking-nexts
returns-then-revoking-nexts c =
    let nexts = c.next_states-nexts.ensures in
    let marks = c.drawn_marks-marks.ensures in
    sym (seven (goal.at.returns-then-revoking-nexts c).Else-next-nexts
    (six (goal.at.returns-then-revoking-nexts c).Else-mark-marks)
    ∙ rw (c.at-then-revoking-nexts.ensures, ← marks, ← nexts, ← c.first_revoking-revoking.ensures, less_apart c.if-revoking-nexts.true))

pub returns : goal.returns
returns c =
    let nexts = c.next_states-nexts.ensures in
    let marks = c.drawn_marks-marks.ensures in
    let found = c.first_revoking-revoking.ensures in
    sym (seven (goal.at.returns c).Else-next-nexts (six (goal.at.returns c).Else-mark-marks)
    ∙ rw (← marks, ← nexts, ← found, all_passed _ found c.if-revoking-nexts.false))
