-- Which places of a list hold the same.
use Rattle.std.specs.Prelude.{Bool, not, List, ℕ, ◌-◌, eqb, length, get_or}
use Rattle.theory.specs.Below.{first}

-- place i holds v
abbrev pub holds_at : List ℕ → ℕ → ℕ → Bool
holds_at l v i = eqb (get_or l i 0) v

-- the first place from `from` on that holds v; the end of the list where none does, or `from` where that lies behind it
abbrev pub next_state : List ℕ → ℕ → ℕ → ℕ
next_state l v from = first (holds_at l v) from (length l - from)

-- place i does not hold what `at` holds
abbrev pub other_at : List ℕ → ℕ → ℕ → Bool
other_at l at i = not (holds_at l (get_or l at 0) i)

-- the last place of those from `at` on that hold what `at` holds: the one before the first that does not
abbrev pub last_alike : List ℕ → ℕ → ℕ
last_alike l at = first (other_at l at) at (length l - at) - 1
