-- `first_revoking_row` meets its contract: what is looked for in the row is a next state that gives up the verdict of q.
use Rattle.std.proofs.Common.{◌≡◌, ◌∙◌, not, eqb, get_or, rules}
use Rattle.monitor.proofs.Revoking.{unmarked_row, revokes_by}
use Rattle.monitor.proofs.first_revoking_row.Goals as goal

pub returns-then-mark-eq0 : goal.returns-then-mark-eq0
returns-then-mark-eq0 c = unmarked_row c.args.marks.now c.args.graph.now.nexts.now _ _ c.if-mark-eq0.true

pub returns : goal.returns
returns c = c.first_in.ensures _ (λ i b from upto e.
    (let computed : b ≡ not (eqb (get_or c.args.marks.now (get_or c.args.graph.now.nexts.now i 0) 0) (get_or c.args.marks.now c.args.q 0)) = search rules in
    computed ∙ revokes_by c.args.marks.now c.args.graph.now.nexts.now _ _ from upto c.if-mark-eq0.false))
