-- `search_in` meets its contract: what the search reads is the reading of the table.
use mathlib.Core.Path.{◌≡◌}
use Prim.Native.Nat.{ℕ, ◌<◌}
use lib.ListN.{length, get_or}
use Rattle.theory.specs.Monitor.{reading}
use Rattle.theory.proofs.Values.{filled_read}
use Rattle.monitor.specs.Tables.{monitor_of_table}
use Rattle.readings.specs.Domains.{domain_of}
use Rattle.witness.specs.Figures.{outcome}
use Rattle.witness.specs.Search.{monitor_in}
use Rattle.witness.proofs.Tables.{search_answer, search_area}
use Rattle.witness.proofs.search_in.Goals as goal

pub returns : goal.returns
returns c =
    let a = c.args in
    let d = domain_of a.reading in
    let s = c.over-search.result in
    let over = c.over-search.ensures in
    let known = filled_read a.table.now.graph.states (reading (monitor_of_table a.table.now) d) _ c.write.ensures in
    let read : (q : ℕ) → q < s.table.now.graph.states → get_or s.outputs.now q 0 ≡ reading (monitor_in s) d q =
    rw (over.table, over.outputs) known in
    let found = c.find_first.ensures in record {
      figures = rw (over.table, over.test) at (search_answer s over.squared d a.set.bits read (length a.area.now) found.figures);
      area = rw (over.table, over.test) at (search_area s over.squared d a.set.bits read (outcome c.find_first.result) a.area.now found.area);
    }
