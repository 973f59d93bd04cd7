-- Lengths that may be missing.
use Rattle.std.specs.Prelude.{◌≡◌, List, ℕ, ◌≤◌, min, length}

-- a number, or missing
pub data Extent : Type 0 where
  number : ℕ → Extent
  missing : Extent

-- some list with the property has the length l, and none is shorter
pub record Shortest (P : List ℕ → Type 0) (l : ℕ) : Type 0 where
  pub word : List ℕ
  pub has : P word
  pub long : length word ≡ l
  pub least : (w : List ℕ) → P w → l ≤ length w

-- the length of the shortest list with the property, "and missing if there is none"
abbrev pub ShortestLength : (List ℕ → Type 0) → Extent → Type 0
ShortestLength P (number l) = Shortest P l
ShortestLength P missing = (w : List ℕ) → P w → ⊥

-- the smaller of two: missing counts as greater than every number
abbrev pub smaller : Extent → Extent → Extent
smaller missing e = e
smaller (number l) missing = number l
smaller (number l) (number m) = number (min l m)

-- never greater
abbrev pub AtMost : Extent → Extent → Type 0
AtMost e missing = Unit {0}
AtMost missing (number m) = ⊥
AtMost (number l) (number m) = l ≤ m
