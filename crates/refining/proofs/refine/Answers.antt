-- `refine` meets its contract: the splitters before c are done.
use native.Mathlib.Omega.{arith}
use Rattle.monitor.proofs.Rows.{next_of_rows}
use Rattle.partition.proofs.Splits.{blocks_few}
use Rattle.refining.proofs.Rounds.{alone_later, block_within, refining_more, refining_ends}
use Rattle.refining.proofs.refine.Goals as goal

pub copy-requires : goal.copy-requires
copy-requires c =
    let P = c.requires.0 in
    let m = blocks_few P in
    omega (arith, m, P.few)

pub offset_bounds-splitters-c : goal.offset_bounds-splitters-c
offset_bounds-splitters-c c =
    let P = c.requires.0 in
    let m = blocks_few P in
    omega (arith, m, P.few, c.loop-c-test.true)

pub bounds-splitters-c : goal.bounds-splitters-c
bounds-splitters-c c =
    let P = c.requires.0 in
    let m = blocks_few P in
    omega (arith, m, P.few, c.loop-c-test.true)

pub split_symbols-requires : goal.split_symbols-requires
split_symbols-requires c =
    let p = c.requires in
    let at = c.loop-c.invariant in (
      at.0,
      block_within p.0 c.loop-c-test.true (λ q. c.copy.ensures c.loop-c.c q c.loop-c.auto.c c.loop-c-test.true),
      alone_later at.1 p.1,
      omega (arith, p.2),
    )

pub loop-c-preserved : goal.loop-c-preserved
loop-c-preserved c =
    let p = c.requires in
    let at = c.loop-c.invariant in
    let s = c.split_symbols.ensures in (
      s.blocks,
      record { were_one = λ x y lx ly e. at.1.were_one x y lx ly (s.finer.were_one x y lx ly e) },
      λ ends L. refining_more (next_of_rows c.args.predecessors.now.graph.rows) p.2 p.0 L (at.2 ends L) c.loop-c-test.true
          (λ q. c.copy.ensures c.loop-c.c q c.loop-c.auto.c c.loop-c-test.true) s.finer s.stable,
    )

pub returns-clause-round : goal.returns-clause-round
returns-clause-round c =
    let p = c.requires in
    let at = c.loop-c.invariant in
    λ ends L. refining_ends (next_of_rows c.args.predecessors.now.graph.rows) p.2 p.0 L (at.2 ends L) c.loop-c-test.false at.0
