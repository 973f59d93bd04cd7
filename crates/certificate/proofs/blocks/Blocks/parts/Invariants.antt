-- `parts` meets its contract: no kind passed leads into two blocks.
use Rattle.std.proofs.Common.{ℕ}
use Rattle.theory.specs.Lists.{any_in}
use Rattle.theory.specs.Faults.{kinds}
use Rattle.theory.specs.Certificate.{parts}
use Rattle.theory.proofs.Scan.{Passed}
use Rattle.monitor.specs.Graph.{automaton}
use Rattle.faults.specs.Rest.{steps_if_held}
use Rattle.certificate.proofs.blocks.Blocks.parts.Given as goal

abbrev pub invariant-loop-kind : goal.invariant-loop-kind
invariant-loop-kind l =
    (let g = automaton l.self.table.now.graph in
    Passed (λ (r : ℕ). any_in (parts g l.self.numbers.now l.p) (steps_if_held l.set.bits g.symbols r)) 0 kinds l.kind-index)
