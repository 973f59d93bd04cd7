-- `enter` meets its contract: after r rounds every pair has had r, and when no block is new all are done.
use mathlib.Core.Path.{subst, sym}
use mathlib.Core.List.{List}
use Prim.Native.Nat.{ℕ}
use native.Mathlib.Omega.{arith}
use native.Mathlib.Numerals.{add-one}
use Rattle.monitor.specs.declared.graph.Graph.{Graph}
use Rattle.monitor.specs.Graph.{automaton}
use Rattle.monitor.proofs.Rows.{next_of_rows}
use Rattle.square.specs.declared.Test.TheVariants.{Differ}
use Rattle.square.specs.Square.{HasRows, Squared, passing}
use Rattle.partition.specs.declared.Blocks.{Blocks}
use Rattle.partition.specs.Blocks.{Partition}
use Rattle.partition.proofs.Splits.{blocks_few}
use Rattle.refining.specs.Refined.{Refined}
use Rattle.refining.proofs.Rounds.{refined_first, refined_last, alone_none, alone_more, alone_later}
use Rattle.refining.proofs.enter.Goals as goal

-- what holds of the blocks once they are split by outputs
abbrev Begun : List ℕ → List ℕ → Blocks → Graph → Type 0
Begun outs square blocks g =
    HasRows g.states square × Partition g.states square blocks × Refined (automaton g) (passing Differ outs) 0 1 square blocks

pub split_outputs-requires : goal.split_outputs-requires
split_outputs-requires c = (rw c.requires.1 (c.one-blocks.ensures.blocks _ c.requires.0), c.one-blocks.ensures.few)

pub loop-old-init : goal.loop-old-init
loop-old-init c =
    let p = c.requires in
    let s = c.split_outputs.ensures in
    let outs = c.args.outputs.now in
    let square = c.split_outputs.new.square in
    let blocks = c.split_outputs.new.blocks in
    let begun : Begun outs square blocks c.args.graph.now = (
      omega (arith, c.args.graph.now.rows.states_most, c.split_outputs.array_long),
      rw p.1 at s.blocks,
      refined_first outs (c.one-blocks.ensures.blocks _ p.0) c.one-blocks.ensures.few (rw p.1 at s.blocks) (rw p.1 at s.finer) (rw p.1 at s.like),
    ) in
    let here = subst (Begun outs square blocks) (sym c.enter-predecessors.ensures) begun in
    (omega arith, omega arith, here.0, here.1, alone_none c.empty-alone.ensures, here.2)

pub alone_from-requires : goal.alone_from-requires
alone_from-requires c =
    let P = c.loop-old.invariant.3 in
    let m = blocks_few P in
    omega (arith, m, P.few)

pub loop-old-smaller : goal.loop-old-smaller
loop-old-smaller c =
    let m = blocks_few c.loop-old.invariant.3 in
    omega (arith, m, c.loop-old-test.true)

pub loop-old-preserved : goal.loop-old-preserved
loop-old-preserved c =
    let at = c.loop-old.invariant in
    let once = c.refine.ensures in
    let alone = alone_more at.3 at.4 c.alone_from.ensures c.union-alone.ensures in
    let m = blocks_few at.3 in (
      omega (arith, at.0, c.loop-old-test.true),
      omega (arith, m),
      omega (arith, at.2),
      once.blocks,
      alone_later once.inside alone,
      rw (add-one c.loop-old.r) (once.round (passing Differ c.args.outputs.now) at.5),
    )

pub returns-clause-distances : goal.returns-clause-distances
returns-clause-distances c =
    let at = c.loop-old.invariant in
    let outs = c.args.outputs.now in
    subst (λ (g : Graph). Squared (automaton g) (passing Differ outs) c.loop-old.square) c.enter-predecessors.ensures
    (refined_last (next_of_rows c.enter-predecessors.result.graph.rows) (omega (arith, at.0, at.1, at.3.few)) at.3 at.5 at.2 c.loop-old-test.false)
