-- A collection that is written and read again (02, note 2), as one claim about lists of two-byte numbers and bodies
-- that the writer accepts; and that no two files hold the same, whether or not their bodies are accepted tables.
use Rattle.std.specs.Prelude.{◌≡◌, List, ℕ, ◌<◌, length, get_or}
use Rattle.theory.specs.Lists.{each}
use Rattle.writer.specs.Encoding.{encoding}
use Rattle.writer.specs.Reading.{Bytes, HandsBack}
use Rattle.writer.specs.Writing.{given_rule, given_body, file_of}

-- there is one file from which the reader hands back these numbers and bodies at most: their encoding
abbrev pub OneFile : ℕ → (ℕ → ℕ) → (ℕ → List ℕ) → Type 0
OneFile c rule body = (file : List ℕ) → Bytes file → HandsBack file c rule body → file ≡ encoding c rule body

-- "From the file so written, and from no other, the reader hands back the same numbers and bodies."
pub record RoundTrip (rules lengths bodies : List ℕ) : Type 0 where
  -- the bodies are those handed over: cut at the lengths, and end to end all of the bytes
  pub cut : (i : ℕ) → i < length rules → length (given_body lengths bodies i) ≡ get_or lengths i 0
  pub end_to_end : each (length rules) (given_body lengths bodies) ≡ bodies
  -- from the file so written
  pub read : HandsBack (file_of rules lengths bodies) (length rules) (given_rule rules) (given_body lengths bodies)
  -- and from no other: `file_of` is this encoding
  pub only : OneFile (length rules) (given_rule rules) (given_body lengths bodies)
