-- Each set is empty.
use native.Mathlib.Omega.{arith}
use Rattle.theory.specs.Monitor.{state_limit}
use Rattle.rows.proofs.Gather.{empty_sets}
use Rattle.rows.proofs.search.Fresh.none.Goals as goal

pub returns : goal.returns
returns c = record { sets = empty_sets state_limit 128 _ (omega arith) c.empty.ensures; rows = c.empty-2.ensures }
