-- `parts` meets its contract: no kind passed leads into two blocks.
use Rattle.std.proofs.Common.{◌≡◌, sym, ◌∙◌, Bool, true, false, ℕ}
use Rattle.theory.specs.Lists.{any_in}
use Rattle.theory.specs.Faults.{FaultStep, kinds, holds, steps_of_kind, steps}
use Rattle.theory.specs.Certificate.{parts}
use Rattle.theory.proofs.Lists.{any_in_each}
use Rattle.theory.proofs.Scan.{scan_begins, scan_some, scan_none, scan_goes_on}
use Rattle.monitor.specs.Graph.{automaton}
use Rattle.faults.specs.Rest.{steps_if_held}
use Rattle.faults.proofs.ByKind.{listed_rank}
use Rattle.certificate.proofs.blocks.Blocks.parts.Goals.{else-contains-via-then-contains+else-parts_of_kind, else-contains-via-else-contains}
use Rattle.certificate.proofs.blocks.Blocks.parts.Goals as goal

-- whether a kind of the set does so, by its rank
held : (f : FaultStep → Bool) (set k : ℕ) {rank i : ℕ} {b : Bool} → rank ≡ i → holds set rank ≡ true → b ≡ any_in f (steps_of_kind k rank)
    → any_in f (steps_if_held set k i) ≡ b
held f set k {rank} e has is = rw (← e, has) (sym is)

lacked : (f : FaultStep → Bool) (set k : ℕ) {rank i : ℕ} → rank ≡ i → holds set rank ≡ false → any_in f (steps_if_held set k i) ≡ false
unfolding any_in
lacked f set k e has = rw (← e, has)

pub loop-kind-init : goal.loop-kind-init
loop-kind-init c = scan_begins _ _ _

pub returns-then-parts_of_kind : goal.returns-then-parts_of_kind
unfolding steps
returns-then-parts_of_kind c =
    let b = c.args.self.now in
    let g = automaton b.table.now.graph in
    let f = parts g b.numbers.now c.args.p in
    let rank = listed_rank c.loop-kind.kind-index _ c.loop-kind-test.true in
    scan_some c.loop-kind.invariant c.loop-kind-test.true
    (held f c.args.set.bits g.symbols rank (sym c.contains.ensures ∙ c.if-contains.true) c.parts_of_kind.ensures ∙ c.if-parts_of_kind.true)
    ∙ sym (any_in_each f kinds (steps_if_held c.args.set.bits g.symbols))

pub loop-kind-preserved : goal.loop-kind-preserved
loop-kind-preserved c =
    let b = c.args.self.now in
    let g = automaton b.table.now.graph in
    let f = parts g b.numbers.now c.args.p in
    let rank = listed_rank c.loop-kind.kind-index _ c.loop-kind-test.true in
    elim c.else-contains.branch [
      | else-contains-via-then-contains+else-parts_of_kind w ↦ scan_goes_on c.loop-kind.invariant c.loop-kind-test.true
          (held f c.args.set.bits g.symbols rank (sym c.contains.ensures ∙ w.if-contains.true) w.parts_of_kind.ensures ∙ w.if-parts_of_kind.false)
      | else-contains-via-else-contains w ↦ scan_goes_on c.loop-kind.invariant c.loop-kind-test.true
          (lacked f c.args.set.bits g.symbols rank (sym c.contains.ensures ∙ w.if-contains.false))
    ]

pub returns : goal.returns
unfolding steps
returns c =
    let b = c.args.self.now in
    let g = automaton b.table.now.graph in
    let f = parts g b.numbers.now c.args.p in
    scan_none c.loop-kind.invariant c.loop-kind-test.false ∙ sym (any_in_each f kinds (steps_if_held c.args.set.bits g.symbols))
