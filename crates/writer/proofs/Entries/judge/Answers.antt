-- `judge` meets its contract: the questions that are left once the first are answered yes.
use Rattle.std.proofs.Common.{◌≡◌, refl, sym, ap, ◌∙◌, ◌∷◌, ℕ, length, rules}
use borrow.Author.Tests.{le-leb, eq-eqb, ne_eqb}
use Rattle.theory.specs.Answer.{asks}
use Rattle.theory.specs.Monitor.{state_limit}
use Rattle.monitor.specs.Questions.{no_values}
use Rattle.collection.specs.Contents.{entry_limit}
use Rattle.collection.proofs.Order.{found_none}
use Rattle.writer.specs.Writing.{given_rule, question28, bodies_questions, given_questions}
use Rattle.writer.proofs.Entries.judge.Goals.{After-total}
use Rattle.writer.proofs.Entries.judge.Goals as goal

-- the first questions are answered yes, these are left
left : (c : After-total)
    → (let e = c.args.self.now in
    asks (given_questions state_limit e.rules.now e.lengths.now e.bodies.now) no_values
    ≡ asks (question28 e.lengths.now e.bodies.now ∷ bodies_questions state_limit e.lengths.now e.bodies.now (length e.rules.now)) no_values)
left c =
    let found = c.first_not_rising-unsorted.ensures (given_rule c.args.self.now.rules.now) (λ i n h e. search rules) in
    rw (
      eq-eqb _ _ c.if-count-self.false,
      le-leb _ entry_limit c.if-count-gt-ENTRY_LIMIT.false,
      found_none _ refl found c.if-unsorted-count.false,
    )

pub returns-then-total-self : goal.returns-then-total-self
returns-then-total-self c =
    rw (c.at-then-total-self.ensures)
    (sym (left (goal.at.returns-then-total-self c).After-total ∙ rw (← c.total.ensures, ne_eqb _ _ c.if-total-self.true)))

pub returns : goal.returns
returns c =
    let e = c.args.self.now in
    c.judge_bodies.ensures
    ∙ ap (λ (n : ℕ). asks (bodies_questions state_limit e.lengths.now e.bodies.now n) no_values) (sym c.if-count-self.false)
    ∙ sym (left (goal.at.returns c).After-total ∙ rw (← c.total.ensures, eq-eqb _ _ c.if-total-self.false))
