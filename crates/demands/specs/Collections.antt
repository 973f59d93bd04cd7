-- What reading a collection hands back, as one claim about an accepted collection file.
use Rattle.std.specs.Prelude.{◌≡◌, List, ◌↔◌, ℕ, ◌<◌, Some}
use Rattle.collection.specs.Contents.{count_of, rule_of, entry_with}
use Rattle.collection.specs.Placed.{Placed}

pub record Collections (file : List ℕ) : Type 0 where
  -- "the bodies follow in entry order without gaps": every body lies in the file and is whole
  pub placed : (i : ℕ) → i < count_of file → Placed file i
  -- every entry is found again by its rule number, and nothing else is found
  pub found : (rule i : ℕ) → (entry_with file rule ≡ Some i) ↔ ((i < count_of file) × (rule_of file i ≡ rule))
