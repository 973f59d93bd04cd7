-- `spread_rows` meets its contract: the rows that are not left are done.
use mathlib.Core.Path.{◌∙◌}
use lib.Dec.{eqb}
use Rattle.state_set.specs.Member.{is_part, in_part}
use Rattle.rows.proofs.Visit.{stays}
use Rattle.rows.proofs.Several.{set_more, set_ends}
use Rattle.rows.proofs.search.Search.spread_rows.Goals as goal

pub loop-p-preserved : goal.loop-p-preserved
loop-p-preserved c =
    let at = c.loop-p in
    let s = c.args in
    let t = c.in-Some.ensures.steps in
    let p = c.in-Some.p in
    let left = in_part at.p-iterator.part at.p-iterator.left in
    let rest = in_part c.next.new.self.part c.next.new.self.left in
    let inside = at.invariant.1 p t.lowest.found in (
      c.spread_row.ensures.stays ∙ at.invariant.0,
      λ q h. at.invariant.1 q (stays left rest (λ x. eqb x p) t.others q h),
      λ g x a front sets most lx la into from. set_more x a (is_part s.w) (in_part s.v s.word) left rest p (from p inside) lx la t.others
          (at.invariant.2 g x a front sets most lx la into from) (c.spread_row.ensures.goes g a front sets (most.at p inside) la into),
    )

pub returns-clause-goes : goal.returns-clause-goes
returns-clause-goes c =
    let s = c.args in
    λ g x a front sets most lx la into from. set_ends x a (is_part s.w) (in_part s.v s.word) _
    (λ p. (c.in-None.ensures.steps p).0) (c.loop-p.invariant.2 g x a front sets most lx la into from)
