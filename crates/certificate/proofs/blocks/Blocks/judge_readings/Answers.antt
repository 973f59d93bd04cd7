-- `judge_readings` meets its contract: the search finds the place of question 16.
use Rattle.std.proofs.Common.{◌≡◌, sym, ap, ◌∙◌, List, ℕ, ◌<◌, zero-add, eqb, get_or, rules}
use Rattle.theory.specs.Below.{first}
use Rattle.theory.specs.Monitor.{reading}
use Rattle.theory.specs.Certificate.{disagrees, read_alike}
use Rattle.theory.proofs.Certificate.{equal_numbers}
use Rattle.theory.proofs.Values.{get_or_filled}
use Rattle.monitor.specs.Tables.{monitor_of_table}
use Rattle.monitor.proofs.Body.{less_apart, all_passed}
use Rattle.readings.specs.Domains.{domain_of}
use Rattle.certificate.proofs.Lowest.{by_lowest}
use Rattle.certificate.proofs.blocks.Blocks.judge_readings.Goals.{After-first_disagreeing-misread}
use Rattle.certificate.proofs.blocks.Blocks.judge_readings.Goals as goal

misread : (c : After-first_disagreeing-misread)
    → (let b = c.args.self.now in let m = monitor_of_table b.table.now in
    c.first_disagreeing-misread.result ≡ first (disagrees (read_alike m (domain_of c.args.reading)) b.numbers.now) 0 m.automaton.states)
misread c =
    let b = c.args.self.now in
    let m = monitor_of_table b.table.now in
    let d = domain_of c.args.reading in
    let n = m.automaton.states in
    let read : (q : ℕ) → q < n → get_or c.write.new.area q 0 ≡ reading m d q =
    λ q l. ap (λ (area : List ℕ). get_or area q 0) c.write.ensures ∙ get_or_filled (reading m d) _ n q l in
    c.first_disagreeing-misread.ensures (read_alike m d)
    (λ p q x lp lq e. (let computed : x ≡ eqb (get_or c.write.new.area p 0) (get_or c.write.new.area q 0) = search rules in
    computed ∙ rw (read p lp, read q lq)))
    ∙ sym (by_lowest b.numbers.now (read_alike m d) (equal_numbers (reading m d)) b.numbered.size)

pub returns-then-misread-self : goal.returns-then-misread-self
returns-then-misread-self c =
    let found = misread (goal.at.returns-then-misread-self c).After-first_disagreeing-misread in
    rw (c.at.ensures) (sym (rw (← found, less_apart c.if-misread-self.true, zero-add)))

pub returns : goal.returns
returns c = (let found = misread (goal.at.returns c).After-first_disagreeing-misread in
    sym (rw (← found, all_passed _ found c.if-misread-self.false)))
