-- `find_first` meets its contract: each return has its law in Answers.
use mathlib.Core.Option.{some}
use native.Mathlib.Omega.{arith}
use lib.ListN.{length, get_or}
use Rattle.theory.specs.Monitor.{state_limit}
use Rattle.witness.specs.Figures.{witness_values}
use Rattle.witness.specs.Search.{monitor_in, automaton_in, Searched}
use Rattle.witness.proofs.Answers.{is_number, says_immune, says_no_room, says_vulnerable, immune_keeps, witness_fills}
use Rattle.witness.proofs.search.Search.find_first.Goals.{After-of-costs}
use Rattle.witness.proofs.search.Search.find_first.Goals as goal

seen : (c : After-of-costs)
    → (let s = c.args.self.now in
    Searched state_limit (automaton_in s) s.table.now.start c.args.set.bits s.square.now s.layers c.of-costs.result)
seen c =
    let e = c.of-costs.ensures in
    record { explored = c.requires.explored; costed = e.costed; enough = e.enough }

pub of-costs-requires : goal.of-costs-requires
of-costs-requires c =
    let p = c.requires in
    (p.explored.queue, p.suited)

pub returns-then-costs-eq-NEVER : goal.returns-then-costs-eq-NEVER
returns-then-costs-eq-NEVER c =
    let h = seen (goal.at.returns-then-costs-eq-NEVER c).After-of-costs in
    let s = c.args.self.now in
    let t = s.table.now.sound in
    let w = t.well_formed in
    let squared = c.requires.squared in record {
      figures = says_immune w.closed squared w.start_in h (λ q. get_or s.outputs.now q 0) (monitor_in s) (length c.args.area.now)
          t.rows.states_most (omega arith) (omega (arith, c.if-costs-eq-NEVER.true));
      area = immune_keeps w.closed squared w.start_in h c.args.area.now t.rows.states_most (omega arith) (omega (arith, c.if-costs-eq-NEVER.true));
    }

pub returns-then-area-costs-clause-figures : goal.returns-then-area-costs-clause-figures
returns-then-area-costs-clause-figures c =
    let h = seen (goal.at.returns-then-area-costs-clause-figures c).After-of-costs in
    let s = c.args.self.now in
    let w = s.table.now.sound.well_formed in
    let squared = c.requires.squared in
    rw c.at.ensures (says_no_room w.closed squared w.start_in h (λ q. get_or s.outputs.now q 0) (monitor_in s) (length c.args.area.now)
    (is_number w.closed squared w.start_in h c.if-costs-eq-NEVER.false) c.if-area-costs.true)

pub returns : goal.returns
returns c =
    let h = seen (goal.at.returns c).After-of-costs in
    let s = c.args.self.now in
    let w = s.table.now.sound.well_formed in
    let squared = c.requires.squared in
    let low = is_number w.closed squared w.start_in h c.if-costs-eq-NEVER.false in
    let fits = c.if-area-costs.false in
    let made = c.witness_of in record {
      figures = says_vulnerable w.closed squared w.start_in h (λ q. get_or s.outputs.now q 0) (monitor_in s) (length c.args.area.now) low fits
          made.ensures.figures;
      area = witness_fills w.closed squared w.start_in h (some (witness_values made.result)) c.args.area.now low fits made.ensures.area;
    }
