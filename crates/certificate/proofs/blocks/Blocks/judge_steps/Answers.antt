-- `judge_steps` meets its contract: the search finds the place of question 17.
use Rattle.std.proofs.Common.{◌≡◌, sym, ◌∙◌, zero-add, rules}
use Rattle.theory.specs.Below.{first}
use Rattle.theory.specs.Certificate.{disagrees, step_alike}
use Rattle.theory.proofs.Certificate.{steps_equal}
use Rattle.monitor.specs.Tables.{monitor_of_table}
use Rattle.monitor.proofs.Body.{less_apart, all_passed}
use Rattle.certificate.proofs.Lowest.{by_lowest}
use Rattle.certificate.proofs.blocks.Blocks.judge_steps.Goals.{After-first_disagreeing-torn}
use Rattle.certificate.proofs.blocks.Blocks.judge_steps.Goals as goal

torn : (c : After-first_disagreeing-torn)
    → (let b = c.args.self.now in let g = (monitor_of_table b.table.now).automaton in
    c.first_disagreeing-torn.result ≡ first (disagrees (step_alike g b.numbers.now) b.numbers.now) 0 g.states)
torn c =
    let b = c.args.self.now in
    let g = (monitor_of_table b.table.now).automaton in
    c.first_disagreeing-torn.ensures (step_alike g b.numbers.now) (λ p q x lp lq e. search rules)
    ∙ sym (by_lowest b.numbers.now (step_alike g b.numbers.now) (steps_equal g b.numbers.now) b.numbered.size)

pub returns-then-torn-self : goal.returns-then-torn-self
returns-then-torn-self c =
    let found = torn (goal.at.returns-then-torn-self c).After-first_disagreeing-torn in
    rw (c.at.ensures) (sym (rw (← found, less_apart c.if-torn-self.true, zero-add)))

pub returns : goal.returns
returns c = (let found = torn (goal.at.returns c).After-first_disagreeing-torn in
    sym (rw (← found, all_passed _ found c.if-torn-self.false)))
