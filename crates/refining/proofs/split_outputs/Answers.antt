-- `split_outputs` meets its contract: two states of a block, one of which is not left, have one output.
use mathlib.Core.Path.{refl, ◌∙◌}
use lib.ListN.{get_or}
use borrow.Author.Tests.{eq-eqb}
use Rattle.theory.specs.Monitor.{state_limit}
use Rattle.state_set.specs.Member.{member}
use Rattle.rows.proofs.Visit.{fewer}
use Rattle.refining.proofs.Rounds.{marked_in, sorting_begins, sorting_more}
use Rattle.refining.proofs.split_outputs.Goals as goal

pub loop-x-init : goal.loop-x-init
loop-x-init c = sorting_begins c.requires.0 c.all_below-left.ensures

pub loop-x-smaller : goal.loop-x-smaller
loop-x-smaller c =
    let x = c.in-Some.ensures in
    let l = c.loop-x.invariant.inside _ x.found in
    let v = get_or c.args.outputs.now c.in-Some.x 0 in
    fewer state_limit (member c.loop-x.left) (member c.minus-left.result) (member c.states_like-like.result) x.below x.found
    (marked_in v c.args.outputs.now refl c.states_like-like.ensures c.in-Some.x l ∙ eq-eqb v v refl) c.minus-left.ensures

pub loop-x-preserved : goal.loop-x-preserved
loop-x-preserved c =
    let outs = c.args.outputs.now in
    sorting_more c.loop-x.invariant c.in-Some.x (marked_in (get_or outs c.in-Some.x 0) outs refl c.states_like-like.ensures)
    c.split_by.ensures c.minus-left.ensures
