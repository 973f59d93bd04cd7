-- `push_columns` meets its contract: the columns before this one are put, each in at most 21 bytes.
use Rattle.std.proofs.Common.{◌≡◌, ◌≤◌, ◌+◌, ◌*◌, ◌++◌, [], length, take}
use Rattle.lines.specs.Line.{spaced, column_texts}
use Rattle.lines.proofs.push_columns.Given as goal

abbrev pub invariant-loop-column : goal.invariant-loop-column
invariant-loop-column g l =
    (l.text ≡ l.initial.text ++ spaced (column_texts (take l.column-index l.columns)) [])
    × (length l.text ≤ length l.initial.text + 21 * l.column-index)
