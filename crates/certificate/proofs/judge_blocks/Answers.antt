-- `judge_blocks` meets its contract: 14 and 15, then 16, 17 and 18.
use Rattle.std.proofs.Common.{sym}
use Rattle.certificate.proofs.Agreeing.{numbered_of}
use Rattle.certificate.proofs.judge_blocks.Goals as goal

pub new-blocks-requires : goal.new-blocks-requires
new-blocks-requires c = numbered_of c.args.table.now.graph.rows.states_most (sym c.in_ok-judge_numbers.ensures)
