-- `has_bit` meets its contract: the code reads the bit, and a number of 64 bits has no other.
use mathlib.Core.Path.{sym, ◌∙◌}
use borrow.Author.Tests.{le-ltb}
use Rattle.theory.proofs.Bits.{bit_high}
use Rattle.faults.proofs.has_bit.Goals as goal

pub returns-else-rank-lt64 : goal.returns-else-rank-lt64
returns-else-rank-lt64 c =
    le-ltb c.args.rank 64 c.if-rank-lt64.false ∙ sym (bit_high 64 c.args.number c.args.rank c.ranges.number.fits c.if-rank-lt64.false)
