-- `leading_from` meets its contract: what was gathered, and what leads into the states that are left, make the whole.
use lib.Dec.{eqb}
use Rattle.state_set.specs.Member.{in_part}
use Rattle.state_set.proofs.Words.{part_none, part_or}
use Rattle.rows.proofs.Visit.{stays}
use Rattle.rows.proofs.Gather.{gathering_none, gathering_more, gathering_all}
use Rattle.rows.proofs.predecessors.Predecessors.leading_from.Goals as goal

pub loop-y-init : goal.loop-y-init
loop-y-init c =
    rw (c.into_iter-y-iterator.ensures.into_iter_gives, c.part_states-y-items.ensures.0, c.part_states-y-items.ensures.1)
    (c.requires.1, gathering_none (part_none _))

pub loop-y-preserved : goal.loop-y-preserved
loop-y-preserved c =
    let at = c.loop-y in
    let t = c.in-Some.ensures.steps in
    let here = at.invariant.0 in
    let left = in_part at.y-iterator.part at.y-iterator.left in
    let rest = in_part c.next.new.self.part c.next.new.self.left in (
      record { at = λ q h. here.at q (stays left rest (λ x. eqb x c.in-Some.y) t.others q h) },
      gathering_more at.invariant.1 c.args.self.now.preceding c.requires.0 t.lowest.found (here.at _ t.lowest.found)
          c.part_of-into.ensures (part_or _ _ _) t.others,
    )

pub returns : goal.returns
returns c = gathering_all c.loop-y.invariant.1 (λ q. (c.in-None.ensures.steps q).0)
