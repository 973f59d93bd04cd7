-- `Blocks::new` meets its contract: there is a number for each state of the table.
use Rattle.certificate.proofs.Agreeing.{numbered_whole}
use Rattle.certificate.proofs.blocks.Blocks.new.Goals as goal

pub lowest_states-lowest-requires : goal.lowest_states-lowest-requires
lowest_states-lowest-requires c = numbered_whole c.requires
