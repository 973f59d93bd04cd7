-- `spread_row` meets its contract: nothing is new, or what is new is entered.
use Prim.Native.Nat.{◌^◌, ◌<◌}
use native.Mathlib.Omega.{arith}
use lib.Bits.{bit_and, and_le_l}
use Rattle.state_set.proofs.Words.{part_and, part_or, part_minus}
use Rattle.state_set.proofs.Sets.{set_put}
use Rattle.state_set.proofs.Taking.{bit_taken, part_taken}
use Rattle.rows.proofs.Visit.{word_none}
use Rattle.rows.proofs.Row.{row_none, row_new}
use Rattle.rows.proofs.search.Search.spread_row.Goals as goal

pub returns-then-new-eq0-clause-goes : goal.returns-then-new-eq0-clause-goes
returns-then-new-eq0-clause-goes c =
    let s = c.args in
    let here = c.part-here in
    λ g a front sets lp la into. row_none s.w s.p a s.r c.requires.2 lp la into
    here.ensures (part_and s.w here.result s.into) (word_none s.w c.if-new-eq0.true)

pub returns-clause-goes : goal.returns-clause-goes
returns-clause-goes c =
    let s = c.args in
    let w = s.w in
    let here = c.part-here in
    let new = bit_and here.result s.into in
    let some = c.if-new-eq0.false in
    let small : here.result < 2 ^ 64 = omega (arith, here.type_inv) in
    let less : new < 2 ^ 64 = omega (arith, and_le_l here.result s.into, small) in
    let old = c.part in
    λ g a front sets lp la into. row_new w s.p a s.r c.requires.2 lp la into
    here.ensures (part_and w here.result s.into)
    (_, (part_taken w _ _ _ (bit_taken new less (omega (arith, some))) c.requires.1).lowest.found)
    c.enter.ensures
    (set_put _ s.p _ (omega (arith, c.requires.0))) c.with_part.ensures (λ q. part_minus w here.result new q small less)
    (set_put _ s.p _ (omega (arith, c.requires.0))) c.with_part-2.ensures (part_or w old.result new) old.ensures
    c.retire_row.ensures (word_none w)
    c.with-next.ensures
