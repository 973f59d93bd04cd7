-- `leading_into` meets its contract: what leads into each word of the set, put together.
use native.Mathlib.Omega.{arith}
use Rattle.state_set.specs.Member.{is_part, in_part, member}
use Rattle.state_set.proofs.Words.{part_or}
use Rattle.monitor.proofs.Rows.{next_of_rows}
use Rattle.rows.proofs.Gather.{part_within, into_both}
use Rattle.rows.proofs.predecessors.Predecessors.leading_into.Goals as goal

pub leading_from-low-requires : goal.leading_from-low-requires
leading_from-low-requires c =
    (c.requires.0, part_within (is_part 0) (member c.args.set) (in_part 0 c.part.result) c.part.ensures c.requires.1, omega arith, c.requires.2)

pub leading_from-requires : goal.leading_from-requires
leading_from-requires c =
    (c.requires.0, part_within (is_part 1) (member c.args.set) (in_part 1 c.part-2.result) c.part-2.ensures c.requires.1, omega arith, c.requires.2)

pub returns : goal.returns
returns c =
    let g = c.args.self.now.graph.rows in
    into_both (next_of_rows g) c.requires.0 g.states_most c.part.ensures c.part-2.ensures (part_or c.args.w _ _) c.leading_from-low.ensures
    c.leading_from.ensures
