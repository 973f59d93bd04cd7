-- In the middle of a round, from the pairs at distance r to those at r + 1, through the predecessors of their states:
-- what holds, and what a step does.
use Rattle.std.specs.Prelude.{◌≡◌, Bool, true, false, ◌&&◌, ◌||◌, List, ◌⊎◌, ℕ, suc, ◌≤◌, ◌<◌, eqb, leb, ltb}
use Rattle.theory.specs.Automaton.{Automaton, Closed}
use Rattle.theory.specs.Monitor.{state_limit}
use Rattle.theory.specs.Pairs.{told}
use Rattle.state_set.specs.declared.StateSet.{StateSet}
use Rattle.square.specs.Square.{never, entry}
use Rattle.rows.specs.Sets.{Preceding, Kept, Active}

-- what the search goes by: an automaton, a test that no state passes with itself, and the predecessors of every state
pub record Ground (g : Automaton) (ends : ℕ → ℕ → Bool) (predecessors : List StateSet) : Type 0 where
  pub small : g.states ≤ state_limit
  pub closed : Closed g
  pub self : (p : ℕ) → p < g.states → ends p p ≡ false
  pub preceding : Preceding g (λ p a. ltb p g.states) predecessors

-- the states at distance r from x, and none that is not told apart from x within r
pub record Front (g : Automaton) (ends : ℕ → ℕ → Bool) (r x : ℕ) (front : ℕ → Bool) : Type 0 where
  pub sound : (y : ℕ) → front y ≡ true → (y < g.states) × (told g ends r x y ≡ true)
  pub all : (y : ℕ) → y < g.states → told g ends r x y ≡ true
      → (front y ≡ true) ⊎ ((s : ℕ) × (r ≡ suc s) × (told g ends s x y ≡ true))

-- in the middle of the round after r: what was at most r is as it was, what is new is told apart within r + 1, and the
-- row p has in column q what symbol a adds to it where that is done
pub record Midway (g : Automaton) (ends : ℕ → ℕ → Bool) (r : ℕ) (done : ℕ → ℕ → ℕ → Bool)
    (square : List ℕ) (alike next active : List StateSet) (rows : ℕ → Bool) : Type 0 where
  pub kept : Kept g.states (suc r) g.states square alike next rows
  pub active_rows : Active g.states alike active
  pub old : (p q s : ℕ) → p < g.states → q < g.states → s ≤ r → told g ends s p q ≡ leb (entry square p q) s
  pub known : (p q : ℕ) → p < g.states → q < g.states → (entry square p q ≤ suc r) ⊎ (entry square p q ≡ never)
  pub new : (p q : ℕ) → p < g.states → q < g.states → entry square p q ≡ suc r → told g ends (suc r) p q ≡ true
  pub covered : (p q a : ℕ) → p < g.states → q < g.states → a < g.symbols → done p q a ≡ true
      → told g ends r (g.next p a) (g.next q a) ≡ true → entry square p q ≤ suc r

-- the round goes on: with what is at distance r from x, more is done, whatever the test of two states
pub record GoesAt (g : Automaton) (r x : ℕ) (front : ℕ → Bool) (more : ℕ → ℕ → ℕ → Bool) (predecessors : List StateSet)
    (square : List ℕ) (alike next active : List StateSet) (rows : ℕ → Bool)
    (square' : List ℕ) (alike' next' active' : List StateSet) (rows' : ℕ → Bool) : Type 0 where
  pub goes : (ends : ℕ → ℕ → Bool) (done : ℕ → ℕ → ℕ → Bool) → Ground g ends predecessors → Front g ends r x front
      → Midway g ends r done square alike next active rows
      → Midway g ends r (λ p q a. done p q a || more p q a) square' alike' next' active' rows'

-- ---- what is done at a time

-- row p in some columns, with symbol a
abbrev pub row_done : (ℕ → Bool) → ℕ → ℕ → ℕ → ℕ → ℕ → Bool
row_done columns p a x q b = columns q && (eqb x p && eqb b a)

-- the rows of a set in some columns, with symbol a
abbrev pub set_done : (ℕ → Bool) → (ℕ → Bool) → ℕ → ℕ → ℕ → ℕ → Bool
set_done columns set a p q b = columns q && (set p && eqb b a)
