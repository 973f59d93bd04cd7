-- The collection file of c rules: `rule` gives the rule number of each entry and `body` its body.
use Rattle.std.specs.Prelude.{List, [], ◌∷◌, ◌++◌, ℕ, zero, suc, ◌+◌, ◌*◌, ◌/◌, ◌%◌, length}
use Rattle.theory.specs.Lists.{each}

-- "All numbers are least byte first.": so many bytes of a number
abbrev pub bytes_of : ℕ → ℕ → List ℕ
bytes_of zero n = []
bytes_of (suc width) n = n % 256 ∷ bytes_of width (n / 256)

-- "entries of eight bytes: body offset (four), body length (two), rule number (two)"
abbrev pub entry_bytes : ℕ → ℕ → ℕ → List ℕ
entry_bytes offset size rule = bytes_of 4 offset ++ (bytes_of 2 size ++ bytes_of 2 rule)

-- where body i starts: behind the count, the entries and the bodies before it, "without gaps"
abbrev pub body_start : ℕ → (ℕ → List ℕ) → ℕ → ℕ
body_start c body i = 2 + 8 * c + length (each i body)

-- entry i: where its body starts, how long it is, and its rule number
abbrev pub entry_for : ℕ → (ℕ → ℕ) → (ℕ → List ℕ) → ℕ → List ℕ
entry_for c rule body i = entry_bytes (body_start c body i) (length (body i)) (rule i)

-- "a two-byte count c, then c entries"; "The bodies follow in entry order"
abbrev pub encoding : ℕ → (ℕ → ℕ) → (ℕ → List ℕ) → List ℕ
encoding c rule body = bytes_of 2 c ++ (each c (entry_for c rule body) ++ each c body)
