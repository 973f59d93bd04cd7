-- `some_not_below` meets its contract: what was found is so of the bytes before this one.
use Rattle.std.proofs.Common.{◌≡◌}
use Rattle.theory.specs.Below.{any}
use Rattle.monitor.specs.Questions.{not_below}
use Rattle.monitor.proofs.some_not_below.Given as goal

abbrev pub invariant-loop-byte : goal.invariant-loop-byte
invariant-loop-byte l = l.found ≡ any l.byte-index (not_below l.bound l.bytes)
