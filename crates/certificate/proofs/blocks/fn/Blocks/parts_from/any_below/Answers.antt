-- The search of `parts_from`: the fault's symbols are among the table's.
use Rattle.faults.specs.Kinds.{rank_of}
use Rattle.faults.proofs.ByKind.{second_in}
use Rattle.certificate.proofs.blocks.fn.Blocks.parts_from.any_below.Goals as goal

pub parts_by-requires : goal.parts_by-requires
parts_by-requires c = record {
  p_lt_n = c.requires.p_lt_n;
  ranged = c.fault_of.ensures.ranged _ c.requires.first_lt_k (second_in (rank_of c.captures.kind) c.requires.first_lt_k c.requires.second_in);
}
