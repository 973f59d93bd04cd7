-- `spread_block` meets its contract: the symbols below a are done.
use mathlib.Core.Path.{◌≡◌, refl, ◌∙◌}
use native.Mathlib.Omega.{arith}
use Rattle.rounds.proofs.Rounds.{block_begins, block_more}
use Rattle.rounds.proofs.front.Front.spread_block.Goals as goal

pub loop-a-init : goal.loop-a-init
loop-a-init c = record { stays = refl; goes = block_begins c.args.self.now.row c.args.v c.args.w }

pub loop-a-preserved : goal.loop-a-preserved
loop-a-preserved c =
    let s = c.args in
    let before = c.loop-a.invariant in
    let step = c.spread_symbol.ensures in
    record { stays = step.stays ∙ before.stays; goes = block_more s.self.now.row s.v s.w c.loop-a.a before.goes step.goes }

pub returns : goal.returns
returns c =
    let at = c.loop-a in
    let l = c.loop-a-test.false in
    let m = at.auto.a-end in
    let e : at.a ≡ c.args.self.now.predecessors.graph.symbols = omega (arith, l, m) in
    rw e at at.invariant
