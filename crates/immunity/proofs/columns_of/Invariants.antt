-- `columns_of` meets its contract: the columns of the kinds passed are filled.
use Rattle.witness.specs.Search.{monitor_in}
use Rattle.immunity.proofs.Columns.{Filled}
use Rattle.immunity.proofs.columns_of.Given as goal

abbrev pub invariant-loop-kind : goal.invariant-loop-kind
invariant-loop-kind l = Filled (monitor_in l.search) l.kind-index l.columns
