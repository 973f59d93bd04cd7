-- The states that the start reaches, nearest first, and the fewest symbols that lead to each.
use Rattle.std.specs.Prelude.{◌≡◌, Bool, List, ℕ, ◌+◌, ◌≤◌, ◌<◌, ltb, length, get_or}
use Rattle.theory.specs.Below.{count}
use Rattle.theory.specs.Automaton.{Automaton, Trace, run}

-- `limit` is the greatest number of states, the size of the arrays, and the depth of a state that is not found: no
-- state is as deep

-- an array of which no place is used
pub record Blank (limit : ℕ) (v : List ℕ) : Type 0 where
  pub size : length v ≡ limit
  pub filled : (q : ℕ) → q < limit → get_or v q 0 ≡ limit

-- q is found
abbrev pub found : ℕ → List ℕ → ℕ → Bool
found limit depths q = ltb (get_or depths q 0) limit

-- the depth of the i-th state of the order
abbrev pub depth_at : List ℕ → List ℕ → ℕ → ℕ
depth_at order depths i = get_or depths (get_or order i 0) 0

-- some trace of l symbols leads from the start to q
pub record Led (g : Automaton) (start q l : ℕ) : Type 0 where
  pub word : List ℕ
  pub trace : Trace g word
  pub long : length word ≡ l
  pub arrives : run g start word ≡ q

-- some trace of as many symbols as its depth leads from the start to each state found
abbrev pub Reached : ℕ → Automaton → ℕ → List ℕ → Type 0
Reached limit g start depths = (q : ℕ) → q < g.states → get_or depths q 0 < limit → Led g start q (get_or depths q 0)

-- of n states c are found so far; `order` lists them, none less deep than an earlier one
pub record Queue (limit n c : ℕ) (order depths : List ℕ) : Type 0 where
  pub order_size : length order ≡ limit
  pub depths_size : length depths ≡ limit
  pub counted : c ≤ count n (found limit depths)
  pub inside : (i : ℕ) → i < c → get_or order i 0 < n
  pub shallow : (i : ℕ) → i < c → depth_at order depths i ≤ i
  pub rises : (i j : ℕ) → i ≤ j → j < c → depth_at order depths i ≤ depth_at order depths j
  pub listed : (q : ℕ) → q < n → get_or depths q 0 < limit → (i : ℕ) × (i < c) × (get_or order i 0 ≡ q)

-- none of the states found is deeper than d
abbrev pub NoDeeper : ℕ → List ℕ → List ℕ → ℕ → Type 0
NoDeeper c order depths d = (i : ℕ) → i < c → depth_at order depths i ≤ d

-- what was found before is still found, at the same places and depths, and no state found is deeper than d
pub record Grown (limit n d before after : ℕ) (order order₁ depths depths₁ : List ℕ) : Type 0 where
  pub queue : Queue limit n after order₁ depths₁
  pub no_deeper : NoDeeper after order₁ depths₁ d
  pub more : before ≤ after
  pub places : (i : ℕ) → i < before → get_or order₁ i 0 ≡ get_or order i 0
  pub same : (q : ℕ) → q < n → get_or depths q 0 < limit → get_or depths₁ q 0 ≡ get_or depths q 0

-- q is found, no deeper than d
pub record By (limit : ℕ) (depths : List ℕ) (d q : ℕ) : Type 0 where
  pub is_found : get_or depths q 0 < limit
  pub near : get_or depths q 0 ≤ d

-- each symbol below `upto` leads from p to a state found, no deeper than d
abbrev pub Onward : ℕ → Automaton → List ℕ → ℕ → ℕ → ℕ → Type 0
Onward limit g depths d p upto = (a : ℕ) → a < upto → By limit depths d (g.next p a)

-- all states that the start reaches: it is found at depth 0, and each symbol leads from each state at most one deeper
pub record Explored (limit : ℕ) (g : Automaton) (start c : ℕ) (order depths : List ℕ) : Type 0 where
  pub queue : Queue limit g.states c order depths
  pub reached : Reached limit g start depths
  pub begins : By limit depths 0 start
  pub expanded : (i : ℕ) → i < c → Onward limit g depths (depth_at order depths i + 1) (get_or order i 0) g.symbols
