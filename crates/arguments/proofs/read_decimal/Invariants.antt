-- The bytes before this one are digits, and `number` is what they stand for, up to the cap.
use Rattle.arguments.proofs.Reading.{Reads}
use Rattle.arguments.proofs.read_decimal.Given as goal

abbrev pub invariant-loop-byte : goal.invariant-loop-byte
invariant-loop-byte l = Reads l.text l.byte-index l.number
