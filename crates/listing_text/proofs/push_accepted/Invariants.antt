-- `push_accepted` meets its contract: the header and the lines of the entries before this one are put.
use Rattle.std.proofs.Common.{◌≡◌, ◌≤◌, ◌+◌, ◌*◌, ◌++◌, length}
use Rattle.theory.specs.Lists.{each}
use Rattle.theory.specs.Monitor.{state_limit}
use Rattle.lines.specs.Line.{line_most}
use Rattle.listing_text.specs.Listing.{header_text, entry_line}
use Rattle.listing_text.proofs.push_accepted.Given as goal

abbrev pub invariant-loop-i : goal.invariant-loop-i
invariant-loop-i l =
    (l.text ≡ header_text ++ each l.i (entry_line state_limit l.file)) × (length l.text ≤ 46 + line_most * l.i)
