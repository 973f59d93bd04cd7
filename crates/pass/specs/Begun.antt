-- The square and the sets of states beside it, as the pass before the first round leaves them.
use Rattle.std.specs.Prelude.{◌≡◌, Bool, true, cond, not, ◌&&◌, ◌||◌, List, ◌⊎◌, ℕ, ◌+◌, ◌*◌, ◌<◌, eqb, ltb, length}
use Rattle.theory.specs.Monitor.{state_limit}
use Rattle.state_set.specs.declared.StateSet.{StateSet}
use Rattle.state_set.specs.Member.{set_at, Put}
use Rattle.square.specs.declared.Test.{Test}
use Rattle.square.specs.Square.{never, entry, passing}
use Rattle.rows.specs.Sets.{Entered, Kept}

-- the pairs before `number` in a pass are at 0 where they pass the test, and the others are as they were filled; the
-- fresh states of every row are those at 0; the rows below `row` are done
pub record Begun (test : Test) (outs : List ℕ) (row number : ℕ) (square : List ℕ) (alike fresh : List StateSet)
    (rows : ℕ → Bool) : Type 0 where
  pub kept : Kept (length outs) 0 row square alike fresh rows
  pub entries : (p q : ℕ) → p < length outs → q < length outs
      → entry square p q ≡ cond (ltb (p * length outs + q) number && passing test outs p q) 0 never
  pub noted : (p q : ℕ) → p < length outs → set_at fresh p q ≡ (ltb q (length outs) && eqb (entry square p q) 0)

-- one pair more: where p and q pass the test, their entry became 0 and q one of the fresh states of row p
pub record PairBegun (test : Test) (outs : List ℕ) (p q : ℕ) (square : List ℕ) (fresh : List StateSet)
    (square' : List ℕ) (fresh' : List StateSet) : Type 0 where
  pub entered : Entered (length outs) square p (λ x. eqb x q && passing test outs p q) 0 square'
  pub noted : Put fresh p (λ x. set_at fresh p x || (eqb x q && passing test outs p q)) fresh'

-- one row more: the states alike to p became the others that are not fresh, and p one of the rows if it has a fresh one
pub record RowDone (n p : ℕ) (fresh alike : List StateSet) (rows : ℕ → Bool) (alike' : List StateSet)
    (rows' : ℕ → Bool) : Type 0 where
  pub others : Put alike p (λ q. (ltb q n && not (set_at fresh p q)) && not (eqb q p)) alike'
  pub same : (x : ℕ) → (x ≡ p → ⊥) → rows' x ≡ rows x
  pub some : rows' p ≡ true → (rows p ≡ true) ⊎ ((q : ℕ) × (set_at fresh p q ≡ true))
  pub all : (q : ℕ) → q < state_limit → set_at fresh p q ≡ true → rows' p ≡ true
