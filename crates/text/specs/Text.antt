-- Texts as ASCII bytes, and numbers in decimal.
use Rattle.std.specs.Prelude.{cond, List, [], ◌∷◌, ◌++◌, ℕ, zero, suc, ◌+◌, ◌/◌, ◌%◌, length, ltb}
use Prim.Native.Char.{code}
use Prim.Native.String.{String, [] as empty, ◌∷◌ as ◌then◌}
use Rattle.theory.specs.Answer.{Answer, asks}
use Rattle.monitor.specs.Questions.{question13}

-- the bytes of a text
abbrev pub ascii : String → List ℕ
ascii empty = []
ascii (c then s) = code c ∷ ascii s

-- n in decimal, of at most `width` digits
abbrev pub decimal_in : ℕ → ℕ → List ℕ
decimal_in zero n = []
decimal_in (suc width) n = cond (ltb n 10) ((48 + n) ∷ []) (decimal_in width (n / 10) ++ ((48 + n % 10) ∷ []))

-- a number in decimal, without leading zeros; n + 1 digits are more than enough for n
abbrev pub decimal : ℕ → List ℕ
decimal n = decimal_in (suc n) n

-- writing a text asks 13 and answers its length
abbrev pub text_answer : List ℕ → ℕ → Answer (List ℕ)
text_answer text room = asks (question13 (length text) room ∷ []) (length text ∷ [])
