-- `judge_faults` meets its contract: the search finds the place of question 18.
use Rattle.std.proofs.Common.{◌≡◌, sym, ap, ◌∙◌, Bool, ◌&&◌, arith, rules}
use Rattle.theory.specs.Below.{first}
use Rattle.theory.specs.Lists.{any_in}
use Rattle.theory.specs.Faults.{steps}
use Rattle.theory.specs.Certificate.{parts, parted}
use Rattle.state_set.specs.Member.{member}
use Rattle.reach.proofs.Exactly.{exactly_in}
use Rattle.monitor.specs.Tables.{monitor_of_table}
use Rattle.monitor.proofs.Body.{all_passed}
use Rattle.certificate.proofs.blocks.Blocks.judge_faults.Goals.{After-first_in-parted}
use Rattle.certificate.proofs.blocks.Blocks.judge_faults.Goals as goal

found : (c : After-first_in-parted)
    → (let b = c.args.self.now in let m = monitor_of_table b.table.now in
    c.first_in-parted.result ≡ first (parted m c.args.set.bits b.numbers.now) 0 m.automaton.states)
found c =
    let b = c.args.self.now in
    let m = monitor_of_table b.table.now in
    let parting = λ (p : _). any_in (parts m.automaton b.numbers.now p) (steps c.args.set.bits m.automaton.symbols) in
    c.first_in-parted.ensures (parted m c.args.set.bits b.numbers.now)
    (λ p x from upto e. (let computed : x ≡ (member c.reachable-reached.result p && parting p) = search rules in
    computed ∙ ap (λ (r : Bool). r && parting p) (exactly_in c.reachable-reached.ensures p (omega (arith, upto)))))

pub returns : goal.returns
returns c = (let at = found (goal.at.returns c).After-first_in-parted in sym (rw (← at, all_passed _ at c.if-parted-graph.false)))
