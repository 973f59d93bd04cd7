-- `least_with` meets its contract: the kind's steps too, or none, or none that is near enough.
use mathlib.Core.Path.{sym, ap, ◌∙◌}
use native.Mathlib.Omega.{arith}
use lib.ListN.{length}
use Rattle.theory.specs.Faults.{FaultStep}
use Rattle.theory.proofs.Below.{clash}
use Rattle.monitor.specs.Graph.{automaton}
use Rattle.faults.specs.Kinds.{rank_of}
use Rattle.faults.proofs.AtMostTwo.{count_is}
use Rattle.faults.proofs.Cheapest.{cheapest_within, cheapest_same, upto_goes_on, upto_passes}
use Rattle.faults.proofs.Looks.{covers_least}
use Rattle.faults.proofs.costing.Costing.least_with.Goals as goal

pub returns-then-fault-least_of : goal.returns-then-fault-least_of
returns-then-fault-least_of c =
    let held = sym c.contains.ensures ∙ c.if-contains.true in
    upto_goes_on c.requires.cheapest
    (cheapest_same (λ s h. h.1) (λ s h. (held, h)) (cheapest_within _ c.cost_of_kind.ensures)) c.least_of-then-fault-least_of.ensures

pub returns-else-fault-least_of : goal.returns-else-fault-least_of
returns-else-fault-least_of c =
    let distances = c.args.self.now.distances in
    let made = c.fault_of-fault in
    let count = count_is made.result.sent (made.ensures.ranged 1 (omega arith) (omega arith)).sent_in.count_most in
    let covered = ap (λ (s : FaultStep). length s.sent) made.ensures.step in
    upto_passes c.requires.cheapest
    (λ t h.
    covers_least (automaton distances.graph.now) distances.square.now c.args.p (rank_of c.args.kind) distances.graph.now.symbols
    (omega (arith, c.if-fault-least_of.false, c.least_of.ensures, count, covered)) t h.1)

pub returns-else-contains : goal.returns-else-contains
returns-else-contains c = upto_passes c.requires.cheapest (λ t h. absurd (clash h.0 (sym c.contains.ensures ∙ c.if-contains.false)))
