-- A pass over the pairs of states: row by row, by one step from a pair to the next, with no division.
use Rattle.std.specs.Prelude.{cond, ℕ, zero, suc, ◌+◌, eqb}
use Rattle.pass.specs.declared.Position.{Position}

-- where a pass begins
abbrev pub start : Position
start = record { row = 0; column = 0; number = 0 }

-- "walks row and column along together": the next column, and after the last one the first of the next row
abbrev pub next : ℕ → Position → Position
next n at = record {
  row = cond (eqb (at.column + 1) n) (at.row + 1) at.row;
  column = cond (eqb (at.column + 1) n) 0 (at.column + 1);
  number = at.number + 1;
}

-- "pair k of a pass, from 0"
unfoldable pub pair : ℕ → ℕ → Position
pair n zero = start
pair n (suc k) = next n (pair n k)
