-- What is read so far decides: at a byte that is no digit, behind one, and at the end.
use Rattle.arguments.proofs.Reading.{reads_empty, reads_digit, reads_other, reads_all}
use Rattle.std.proofs.Common.{arith}
use Rattle.arguments.proofs.read_decimal.Goals as goal

pub returns-then-is_empty : goal.returns-then-is_empty
returns-then-is_empty c = reads_empty _ (grind arith)

pub returns-then-not-is_ascii_digit : goal.returns-then-not-is_ascii_digit
returns-then-not-is_ascii_digit c = reads_other c.loop-byte.invariant c.loop-byte-test.true (cc)

pub loop-byte-preserved : goal.loop-byte-preserved
loop-byte-preserved c = reads_digit c.loop-byte.invariant c.loop-byte-test.true (cc) c.least_of-number.ensures

pub returns : goal.returns
returns c = reads_all c.loop-byte.invariant (grind arith) c.loop-byte-test.false
