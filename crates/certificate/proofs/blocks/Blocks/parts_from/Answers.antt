-- `parts_from` meets its contract: a step for each second symbol.
use Rattle.std.proofs.Common.{sym, ap, ◌∙◌, ℕ, rules}
use Rattle.theory.specs.Below.{any}
use Rattle.theory.specs.Faults.{step_of, seconds}
use Rattle.theory.specs.Certificate.{parts}
use Rattle.theory.proofs.Lists.{any_in_ones}
use Rattle.monitor.specs.Graph.{automaton}
use Rattle.faults.specs.Kinds.{rank_of}
use Rattle.certificate.proofs.blocks.Blocks.parts_from.Goals as goal

pub returns : goal.returns
returns c =
    let g = automaton c.args.self.now.table.now.graph in
    let f = parts g c.args.self.now.numbers.now c.args.p in
    let rank = rank_of c.args.kind in
    c.any_below.ensures (λ b. f (step_of rank c.args.first b)) (λ b x l e. search rules)
    ∙ ap (λ (n : ℕ). any n (λ b. f (step_of rank c.args.first b))) c.seconds_of.ensures
    ∙ sym (any_in_ones f (seconds rank g.symbols) (step_of rank c.args.first))
