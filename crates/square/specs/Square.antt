-- The square of pair distances as the search holds it: row by row, the greatest two-byte number where a pair is not
-- told apart.
use Rattle.std.specs.Prelude.{◌≡◌, Bool, cond, not, ◌&&◌, List, [], ◌∷◌, ◌⊎◌, ℕ, zero, suc, ◌+◌, ◌*◌, ◌≤◌, ◌<◌, eqb}
use Rattle.std.specs.Prelude.{leb, length, get_or}
use Rattle.theory.specs.Below.{first}
use Rattle.theory.specs.Automaton.{Automaton}
use Rattle.theory.specs.Monitor.{state_limit}
use Rattle.theory.specs.Extent.{Extent, number, missing, Shortest}
use Rattle.theory.specs.Pairs.{Tells, told}
use Rattle.square.specs.declared.Test.{Test}
use Rattle.square.specs.declared.Test.TheVariants.{Differ, Misread}

-- "not told apart"
abbrev pub never : ℕ
never = 65535

-- "the square has 16,384 places" (02, note 6): a row of places for each state
abbrev pub square_size : ℕ
square_size = state_limit * state_limit

-- where the states p and q have their entry
abbrev pub place : ℕ → ℕ → ℕ
place p q = p * state_limit + q

-- the rows of n states are there
abbrev pub HasRows : ℕ → List ℕ → Type 0
HasRows n square = n * state_limit ≤ length square

-- what stands in the square for the states p and q
abbrev pub entry : List ℕ → ℕ → ℕ → ℕ
entry square p q = get_or square (place p q) 0

-- the rows of n states as they are filled: no pair is told apart
pub record Blank (n : ℕ) (square : List ℕ) : Type 0 where
  pub size : HasRows n square
  pub filled : (i : ℕ) → i < n * state_limit → get_or square i 0 ≡ never

-- what an entry stands for
abbrev pub extent : ℕ → Extent
extent e = cond (eqb e never) missing (number e)

-- e notes the length of the shortest list with the property, or that there is none
pub record Noted (P : List ℕ → Type 0) (e : ℕ) : Type 0 where
  pub most : e ≤ never
  pub found : e < never → Shortest P e
  pub none : e ≡ never → (w : List ℕ) → P w → ⊥

-- the square holds the distance of every pair of states: "a pair's distance is the fewest messages after which its two
-- states read differently", here: pass the test
pub record Squared (g : Automaton) (ends : ℕ → ℕ → Bool) (square : List ℕ) : Type 0 where
  pub size : HasRows g.states square
  pub noted : (p q : ℕ) → p < g.states → q < g.states → Noted (Tells g ends p q) (entry square p q)

-- after r rounds: e is how many symbols tell p and q apart where at most r do, and never where they do not
pub record Stage (g : Automaton) (ends : ℕ → ℕ → Bool) (r p q e : ℕ) : Type 0 where
  pub agrees : (s : ℕ) → s ≤ r → told g ends s p q ≡ leb e s
  pub known : (e ≤ r) ⊎ (e ≡ never)

-- what a test says of the output after the sent trace and the output after the received one
abbrev pub passes : Test → ℕ → ℕ → Bool
passes Differ sent received = not (eqb sent received)
passes (Misread v) sent received = eqb received v && not (eqb sent v)

-- what it says of the states p, after the sent trace, and q, after the received one
abbrev pub passing : Test → List ℕ → ℕ → ℕ → Bool
passing test outs p q = passes test (get_or outs p 0) (get_or outs q 0)

-- the pair is told apart before any symbol: it is at 0
abbrev pub apart_at_once : List ℕ → ℕ → ℕ → Bool
apart_at_once square p q = eqb (entry square p q) 0

-- ---- the first of the shortest traces that tell two states apart

-- the lowest symbol from p and q to a pair with the entry e, or the number of symbols
abbrev pub nearer : Automaton → List ℕ → ℕ → ℕ → ℕ → ℕ
nearer g square e p q = first (λ a. eqb (entry square (g.next p a) (g.next q a)) e) 0 g.symbols

-- from each pair that is told apart some symbol leads one nearer
pub record Falling (g : Automaton) (square : List ℕ) : Type 0 where
  pub falls : (p q e : ℕ) → p < g.states → q < g.states → entry square p q ≡ suc e → suc e < never
      → nearer g square e p q < g.symbols

-- the symbols that lead from p and q, at e, to a pair at 0
unfoldable pub path : Automaton → List ℕ → ℕ → ℕ → ℕ → List ℕ
path g square zero p q = []
path g square (suc e) p q =
    let a = nearer g square e p q in
    a ∷ path g square e (g.next p a) (g.next q a)

-- the first of the shortest traces that tell p and q apart, as the square has it
abbrev pub apart : Automaton → List ℕ → ℕ → ℕ → List ℕ
apart g square p q = path g square (entry square p q) p q
