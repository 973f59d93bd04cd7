-- `bytes_at` meets its contract.
use Rattle.collection.proofs.Entries.{padded}
use Rattle.collection.proofs.bytes_at.Goals as goal

pub returns : goal.returns
returns g c = padded _ _ _ c.part.ensures c.copy.ensures
