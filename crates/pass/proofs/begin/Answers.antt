-- `begin` meets its contract: the pass is at the pair with its number, and the pairs before it have begun.
use mathlib.Core.Path.{refl}
use native.Mathlib.Omega.{arith}
use Rattle.pass.proofs.Pass.{on_row, on_column}
use Rattle.pass.proofs.First.{walking_none, walking_less, walking_along, walking_down, walking_over}
use Rattle.pass.proofs.begin.Goals as goal

pub loop-at-init : goal.loop-at-init
loop-at-init c = (walking_none c.requires.2 c.first_pair-at.ensures, refl, refl)

pub begin_pair-requires : goal.begin_pair-requires
begin_pair-requires c =
    let W = c.loop-at.invariant.0 in
    let t = c.loop-at-test.true in
    (c.requires.0, on_row W.on t, on_column W.on t)

pub overflow_add-at : goal.overflow_add-at
overflow_add-at c =
    let small = c.requires.0 in
    let l = on_column c.loop-at.invariant.0.on c.loop-at-test.true in
    omega (arith, l, small)

pub end_row-requires : goal.end_row-requires
end_row-requires c =
    let small = c.requires.0 in
    let l = on_row c.loop-at.invariant.0.on c.loop-at-test.true in
    omega (arith, l, small)

pub loop-at-smaller-then-at-n : goal.loop-at-smaller-then-at-n
loop-at-smaller-then-at-n c =
    walking_less c.loop-at.invariant.0 c.loop-at-test.true c.next_pair-at.ensures

pub loop-at-preserved-then-at-n : goal.loop-at-preserved-then-at-n
loop-at-preserved-then-at-n c =
    let pre = c.requires in
    let P = c.begin_pair.ensures in
    let R = c.end_row.ensures in (
      rw R.fresh (walking_down c.loop-at.invariant.0 c.loop-at-test.true c.next_pair-at.ensures pre.0 P.begun
          c.if-at-n.true
          (rw P.rows at R.done _ pre.1)),
      c.loop-at.invariant.1,
      c.loop-at.invariant.2,
    )

pub loop-at-smaller : goal.loop-at-smaller
loop-at-smaller c =
    walking_less c.loop-at.invariant.0 c.loop-at-test.true c.next_pair-at-else-at-n.ensures

pub loop-at-preserved : goal.loop-at-preserved
loop-at-preserved c =
    let P = c.begin_pair.ensures in (
      rw P.rows (walking_along c.loop-at.invariant.0 c.loop-at-test.true c.next_pair-at-else-at-n.ensures c.requires.0 P.begun c.if-at-n.false),
      c.loop-at.invariant.1,
      c.loop-at.invariant.2,
    )

-- no pair is left
pub returns : goal.returns
returns c = record { begun = walking_over c.loop-at.invariant.0 c.loop-at-test.false; active = c.loop-at.invariant.1; stays = c.loop-at.invariant.2 }
