-- `first_revoking` meets its contract: the rows before q have no next state that gives up a verdict.
use Rattle.theory.proofs.Scan.{rows_begin, rows_go_on, rows_stop, rows_end}
use Rattle.monitor.proofs.Rows.{row_end}
use Rattle.monitor.proofs.first_revoking.Goals as goal

pub loop-q-init : goal.loop-q-init
loop-q-init c = rows_begin _ _ _

pub returns-then-i-q : goal.returns-then-i-q
returns-then-i-q c = rows_stop _ _ c.loop-q.invariant (row_end c.args.graph.now.rows c.loop-q-test.true)
    c.first_revoking_row-i.ensures c.if-i-q.true

pub loop-q-preserved : goal.loop-q-preserved
loop-q-preserved c = rows_go_on _ _ c.loop-q.invariant (row_end c.args.graph.now.rows c.loop-q-test.true)
    c.first_revoking_row-i.ensures c.if-i-q.false

pub returns : goal.returns
returns c = rows_end _ _ _ c.loop-q.invariant c.args.graph.now.rows.rows_length c.loop-q-test.false
