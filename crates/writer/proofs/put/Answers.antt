-- `put` meets its contract.
use Rattle.writer.proofs.Puts.{put_at}
use Rattle.writer.proofs.put.Goals as goal

pub returns : goal.returns
returns c = put_at c.args.bytes.now c.args.area.now c.args.at c.requires c.copy.ensures
