-- Where the body of an entry lies.
use Rattle.std.specs.Prelude.{◌≡◌, List, ℕ, ◌+◌, ◌≤◌, length}
use Rattle.collection.specs.Contents.{offset_of, length_of, body_of, start_of_body}

-- the body of entry i starts where it has to, ends in the file, and is all there
pub record Placed (file : List ℕ) (i : ℕ) : Type 0 where
  pub starts : offset_of file i ≡ start_of_body file i
  pub inside : offset_of file i + length_of file i ≤ length file
  pub whole : length (body_of file i) ≡ length_of file i
