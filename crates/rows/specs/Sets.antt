-- The rows of the square and the sets of states beside them: predecessors, entries of a row, which states are alike and
-- which are fresh.
use Rattle.std.specs.Prelude.{◌≡◌, Bool, true, false, cond, not, ◌&&◌, List, ◌⊎◌, ℕ, ◌+◌, ◌*◌, ◌/◌, ◌≤◌, ◌<◌, eqb}
use Rattle.std.specs.Prelude.{ltb, length}
use Rattle.theory.specs.Automaton.{Automaton}
use Rattle.theory.specs.Monitor.{symbol_limit}
use Rattle.state_set.specs.declared.StateSet.{StateSet}
use Rattle.state_set.specs.Member.{set_at}
use Rattle.square.specs.Square.{never, HasRows, entry}

-- ---- sets of states

-- every state of the set is below n
pub record Within (n : ℕ) (set : ℕ → Bool) : Type 0 where
  pub at : (y : ℕ) → set y ≡ true → y < n

-- the first n sets are empty
pub record Empty (n : ℕ) (sets : List StateSet) : Type 0 where
  pub size : n ≤ length sets
  pub none : (p q : ℕ) → p < n → set_at sets p q ≡ false

-- ---- predecessors

-- for each state x and symbol a, the states from which a leads to x, of those that were entered so far
pub record Preceding (g : Automaton) (entered : ℕ → ℕ → Bool) (sets : List StateSet) : Type 0 where
  pub size : g.states * symbol_limit ≤ length sets
  pub at : (x a p : ℕ) → x < g.states → a < g.symbols
      → set_at sets (x * symbol_limit + a) p ≡ (entered p a && eqb (g.next p a) x)

-- the states from which a leads to a state of the set
abbrev pub leading : Automaton → ℕ → (ℕ → Bool) → ℕ → Bool
leading g a set q = ltb q g.states && set (g.next q a)

-- into has those of them that are of the part
pub record Into (g : Automaton) (a : ℕ) (part set into : ℕ → Bool) : Type 0 where
  pub at : (q : ℕ) → into q ≡ (part q && leading g a set q)

-- ---- rows

-- of n states, the entries of row p became d for those that pass the test
pub record Entered (n : ℕ) (before : List ℕ) (p : ℕ) (test : ℕ → Bool) (d : ℕ) (after : List ℕ) : Type 0 where
  pub size : length after ≡ length before
  pub here : (q : ℕ) → q < n → entry after p q ≡ cond (test q) d (entry before p q)
  pub elsewhere : (x q : ℕ) → x < n → q < n → (x ≡ p → ⊥) → entry after x q ≡ entry before x q

-- the sets agree with the square in the rows below `upto`: the states alike to a row are the others that are not told
-- apart from it, the fresh ones are at d, and `rows` are the rows that have a fresh one
pub record Kept (n d upto : ℕ) (square : List ℕ) (alike fresh : List StateSet) (rows : ℕ → Bool) : Type 0 where
  pub size : HasRows n square
  pub alike_size : n ≤ length alike
  pub fresh_size : n ≤ length fresh
  pub alike_is : (p q : ℕ) → p < upto → set_at alike p q ≡ ((ltb q n && not (eqb q p)) && eqb (entry square p q) never)
  pub fresh_is : (p q : ℕ) → p < upto → set_at fresh p q ≡ (ltb q n && eqb (entry square p q) d)
  pub rows_some : (p : ℕ) → rows p ≡ true → (p < upto) × ((q : ℕ) × (set_at fresh p q ≡ true))
  pub rows_all : (p q : ℕ) → p < upto → set_at fresh p q ≡ true → rows p ≡ true

-- set w of `active` has every row to which a state of part w is alike
pub record Active (n : ℕ) (alike active : List StateSet) : Type 0 where
  pub at : (p q : ℕ) → p < n → set_at alike p q ≡ true → set_at active (q / 64) p ≡ true

-- no row is out of its set but p out of set w, and that only where no state is left
pub record Retired (p w left : ℕ) (before after : List StateSet) : Type 0 where
  pub size : length after ≡ length before
  pub stays : (u x : ℕ) → set_at before u x ≡ true → (set_at after u x ≡ true) ⊎ ((u ≡ w) × (x ≡ p) × (left ≡ 0))
