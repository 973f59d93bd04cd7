-- A division taken out (02, note 4) as one claim about a pass over the pairs of any number of states, which the library
-- makes by `next` (pass/specs/Pass) from each pair to the following.
use Rattle.std.specs.Prelude.{◌≡◌, ℕ, ◌+◌, ◌*◌, ◌<◌}
use Rattle.pass.specs.Pass.{pair}

pub record Passes (n : ℕ) : Type 0 where
  -- "pair k of a pass, from 0, has row times states plus column equal to k, up to the last pair"
  pub numbered : (k : ℕ) → k < n * n → (pair n k).row * n + (pair n k).column ≡ k
  -- the number that walks along is k
  pub counted : (k : ℕ) → (pair n k).number ≡ k
  -- row and column are states, every pair of states is visited, and none twice
  pub row_below : (k : ℕ) → k < n * n → (pair n k).row < n
  pub column_below : (k : ℕ) → k < n * n → (pair n k).column < n
  pub visited : (p q : ℕ) → p < n → q < n → (k : ℕ) × (k < n * n) × ((pair n k).row ≡ p) × ((pair n k).column ≡ q)
  pub once : (i k : ℕ) → i < n * n → k < n * n → (pair n i).row ≡ (pair n k).row
      → (pair n i).column ≡ (pair n k).column → i ≡ k
