-- `over` meets its contract: the square has at 0 what passes the test, so that the looks of the test are enough.
use Rattle.square.proofs.Path.{squared_at_once}
use Rattle.faults.proofs.Looks.{suited}
use Rattle.monitor.specs.Graph.{automaton}
use Rattle.witness.proofs.search.Search.over.Goals as goal

pub returns-clause-posed : goal.returns-clause-posed
returns-clause-posed c =
    let t = c.args.table.now in
    let square = c.enter_distances.ensures in
    let g = automaton t.graph in record {
      outputs = c.requires;
      squared = squared_at_once t.sound.well_formed.closed square;
      suited = suited g c.args.test c.args.outputs.now _ square;
      explored = c.explore.ensures;
    }
