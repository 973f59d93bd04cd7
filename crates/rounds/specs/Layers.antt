-- A round, from the pairs at distance r to those at r + 1: what holds before and after it, and what is done at a time.
use Rattle.std.specs.Prelude.{Bool, ◌&&◌, List, ℕ, ◌<◌, eqb, ltb}
use Rattle.theory.specs.Automaton.{Automaton}
use Rattle.state_set.specs.declared.StateSet.{StateSet}
use Rattle.square.specs.Square.{entry, Stage}
use Rattle.rows.specs.Sets.{Kept}

-- before the round after r: every pair has had r rounds, and the fresh ones are at r
pub record Layer (g : Automaton) (ends : ℕ → ℕ → Bool) (r : ℕ) (square : List ℕ) (alike fresh : List StateSet)
    (rows : ℕ → Bool) : Type 0 where
  pub kept : Kept g.states r g.states square alike fresh rows
  pub stage : (p q : ℕ) → p < g.states → q < g.states → Stage g ends r p q (entry square p q)

-- ---- what is done at a time

-- some rows that symbol a leads to x, in some columns
abbrev pub symbol_done : Automaton → ℕ → (ℕ → Bool) → (ℕ → Bool) → ℕ → ℕ → ℕ → ℕ → Bool
symbol_done g x rows columns a p q b = (rows p && columns q) && (eqb (g.next p b) x && eqb b a)

-- some rows that a symbol below k leads to x, in some columns
abbrev pub block_done : Automaton → ℕ → (ℕ → Bool) → (ℕ → Bool) → ℕ → ℕ → ℕ → ℕ → Bool
block_done g x rows columns k p q b = (rows p && columns q) && (eqb (g.next p b) x && ltb b k)

-- some rows that a symbol below k leads to x
abbrev pub part_done : Automaton → ℕ → (ℕ → Bool) → ℕ → ℕ → ℕ → ℕ → Bool
part_done g x rows k p q b = rows p && (eqb (g.next p b) x && ltb b k)

-- all rows that a symbol below k leads to x
abbrev pub state_done : Automaton → ℕ → ℕ → ℕ → ℕ → ℕ → Bool
state_done g x k p q b = eqb (g.next p b) x && ltb b k
