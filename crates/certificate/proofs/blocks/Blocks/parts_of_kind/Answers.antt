-- `parts_of_kind` meets its contract: the steps of each first symbol.
use Rattle.std.proofs.Common.{sym, ◌∙◌, rules}
use Rattle.theory.specs.Lists.{any_in}
use Rattle.theory.specs.Certificate.{parts}
use Rattle.theory.proofs.Lists.{any_in_each}
use Rattle.monitor.specs.Graph.{automaton}
use Rattle.faults.specs.Kinds.{rank_of}
use Rattle.faults.specs.Rest.{steps_from}
use Rattle.certificate.proofs.blocks.Blocks.parts_of_kind.Goals as goal

pub returns : goal.returns
returns c =
    let g = automaton c.args.self.now.table.now.graph in
    let f = parts g c.args.self.now.numbers.now c.args.p in
    c.any_below.ensures (λ a. any_in f (steps_from g.symbols (rank_of c.args.kind) a)) (λ a b l e. search rules)
    ∙ sym (any_in_each f g.symbols (steps_from g.symbols (rank_of c.args.kind)))
