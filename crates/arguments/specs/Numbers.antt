-- Decimal numbers as text. A text is any list of numbers, whether or not they are bytes.
use Rattle.std.specs.Prelude.{Bool, true, Option, None, Some, ◌&&◌, cond, List, [], ◌∷◌, ℕ, ◌+◌, ◌-◌, ◌*◌, min, leb}
use Rattle.std.specs.Prelude.{ltb, length}

-- the byte is one of the digits 0 to 9
abbrev pub is_digit : ℕ → Bool
is_digit byte = leb 48 byte && leb byte 57

-- each byte of the text is a digit
unfoldable pub are_digits : List ℕ → Bool
are_digits [] = true
are_digits (byte ∷ text) = is_digit byte && are_digits text

-- the number that the digits of a text stand for where those of the number n stand before them
unfoldable pub value_from : ℕ → List ℕ → ℕ
value_from n [] = n
value_from n (byte ∷ text) = value_from (10 * n + (byte - 48)) text

-- 10 ^ 18, for which a greater number is taken: no question accepts a number near it
abbrev pub cap : ℕ
cap = 1000000000000000000

-- no number for the empty text and for one with another byte than a digit; else the smaller of the number that the
-- digits stand for and the cap
unfoldable pub decimal_of : List ℕ → Option ℕ
decimal_of text = cond (are_digits text && ltb 0 (length text)) (Some (min (value_from 0 text) cap)) None

-- the number where it has two bytes at most
abbrev pub two_bytes_of : Option ℕ → Option ℕ
two_bytes_of None = None
two_bytes_of (Some n) = cond (ltb n 65536) (Some n) None
