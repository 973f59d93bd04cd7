-- `spread` meets its contract: the rows that lead to a state which is not left are done.
use mathlib.Core.Path.{refl, sym, ◌∙◌}
use native.Mathlib.Omega.{arith}
use lib.Dec.{eqb}
use borrow.Author.Tests.{ltb-true}
use Rattle.theory.proofs.Below.{and_right}
use Rattle.state_set.specs.Member.{member, set_at}
use Rattle.state_set.proofs.Sets.{set_put}
use Rattle.rows.proofs.Visit.{stays}
use Rattle.rounds.proofs.Rounds.{rows_below, spreading_begins, spreading_more, spreading_ends}
use Rattle.rounds.proofs.spread.Goals as goal

pub loop-row-init : goal.loop-row-init
loop-row-init c =
    let P = c.args.predecessors.now in
    let all = member P.all in
    let both = c.intersection-rows.ensures in
    rw (c.into_iter-row-iterator.ensures.into_iter_gives, c.states-row-items.ensures) (
      record { at = λ q t. ltb-true q P.graph.states (sym (P.states q) ∙ and_right (member c.args.fresh.now.rows q) (all q) (sym (both q) ∙ t)) },
      λ ends G N A L. spreading_begins G L (rows_below G L all _ P.states both) c.requires N.sets A N.rows,
      c.empty-fresh.ensures,
      refl,
    )

pub invariant_of-front : goal.invariant_of-front
invariant_of-front c =
    let P = c.args.predecessors.now in
    let both = c.intersection-states.ensures in
    record {
      row_inside = c.loop-row.invariant.0.at _ c.in-Some.ensures.steps.lowest.found;
      states_inside = record { at = λ q t. ltb-true q P.graph.states (sym (P.states q) ∙ and_right (set_at c.loop-row.fresh.sets c.in-Some.row q) (member P.all q) (sym (both q) ∙ t)) };
      early = c.requires;
    }

pub loop-row-preserved : goal.loop-row-preserved
loop-row-preserved c =
    let P = c.args.predecessors.now in
    let at = c.loop-row in
    let t = c.in-Some.ensures.steps in (
      record { at = λ q h. at.invariant.0.at q (stays (member at.row-iterator.left) (member c.next.new.self.left) (λ x. eqb x c.in-Some.row) t.others q h) },
      λ ends G N A L. spreading_more G L (at.invariant.1 ends G N A L) t (member P.all) refl P.states
          c.intersection-states.ensures
          c.empty.ensures (set_put _ c.in-Some.row _ (omega (arith, at.invariant.0.at _ t.lowest.found, P.graph.rows.states_most))) c.spread.ensures.goes,
      at.invariant.2,
      c.spread.ensures.stays ∙ at.invariant.3,
    )

pub returns-clause-round : goal.returns-clause-round
returns-clause-round c = λ ends G N A L.
    let end = spreading_ends G L (c.loop-row.invariant.1 ends G N A L) (λ q. (c.in-None.ensures.steps q).0) in
    (end.0, record { sets = end.1; rows = c.loop-row.invariant.2 }, end.2)
