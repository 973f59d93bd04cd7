-- What the reader hands back of a collection file.
use Rattle.std.specs.Prelude.{◌≡◌, List, [], ◌∷◌, ℕ, ◌<◌, get_or}
use Rattle.theory.specs.Answer.{answered}
use Rattle.collection.specs.Contents.{rule_of, body_of, collection_answer}

-- every number of the list is a byte
abbrev pub Bytes : List ℕ → Type 0
Bytes l = (i : ℕ) → get_or l i 0 < 256

-- "the reader hands back" these numbers and bodies: the file is accepted with c entries, and entry i has the rule
-- number `rule i` and the body `body i`
pub record HandsBack (file : List ℕ) (c : ℕ) (rule : ℕ → ℕ) (body : ℕ → List ℕ) : Type 0 where
  pub accepted : collection_answer file ≡ answered (c ∷ [])
  pub rules : (i : ℕ) → i < c → rule_of file i ≡ rule i
  pub bodies : (i : ℕ) → i < c → body_of file i ≡ body i
