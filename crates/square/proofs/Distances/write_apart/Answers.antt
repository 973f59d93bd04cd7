-- `write_apart` meets its contract: at each turn the part written and the part to come give the path.
use native.Mathlib.Omega.{arith}
use Rattle.monitor.proofs.Rows.{next_of_rows}
use Rattle.square.proofs.Walk.{walk_ends, walk_goes_on}
use Rattle.square.proofs.Distances.write_apart.Goals as goal

pub loop-i-preserved : goal.loop-i-preserved
loop-i-preserved c =
    walk_goes_on c.loop-i.invariant c.requires.0 (omega arith) (next_of_rows c.args.self.now.graph.now.rows)
    c.nearer_by-a.ensures c.successor-x.ensures.next c.successor-y.ensures.next

pub returns : goal.returns
returns c =
    let w = c.loop-i.invariant in
    let e = walk_ends w (omega arith) in
    record { area = e.0; sent = (e.1, w.first_in); received = (e.2, w.second_in) }
