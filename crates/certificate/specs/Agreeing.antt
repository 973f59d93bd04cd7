-- What the functions below the entry point compare, and with which state.
use Rattle.std.specs.Prelude.{◌≡◌, Bool, not, List, ℕ, ◌≤◌, ◌<◌, length, get_or}
use Rattle.theory.specs.Below.{first}
use Rattle.theory.specs.Certificate.{block_of, same_block}

-- a block number below n for each of n states, which are within the limit
pub record Numbered (limit n : ℕ) (c : List ℕ) : Type 0 where
  pub most : n ≤ limit
  pub size : length c ≡ n
  pub below : (q : ℕ) → q < n → block_of c q < n

-- the lowest state of the block of q
abbrev pub lowest_in : List ℕ → ℕ → ℕ
lowest_in c q = first (λ p. same_block c p q) 0 (length c)

-- a list of the limit's size that has it, by block number
pub record Lowest (limit : ℕ) (c low : List ℕ) : Type 0 where
  pub size : length low ≡ limit
  pub entered : (q : ℕ) → q < length c → get_or low (block_of c q) 0 ≡ lowest_in c q

-- q does not agree with the lowest state of its block
abbrev pub differs_from_lowest : List ℕ → (ℕ → ℕ → Bool) → ℕ → Bool
differs_from_lowest c agree q = not (agree (lowest_in c q) q)
