-- Lines put one behind the other: each is short, and together they are the lines of the entries.
use mathlib.Core.Path.{◌≡◌, sym, ap, ◌∙◌}
use mathlib.Core.List.{List, ◌++◌, append_assoc}
use Prim.Native.Nat.{ℕ, ◌+◌, ◌≤◌, ◌<◌}
use native.Mathlib.Numerals.{add-one}
use native.Mathlib.Omega.{arith}
use lib.ListN.{length, drop, length-take, length-drop}
use Rattle.theory.specs.Lists.{each}
use Rattle.theory.specs.Computed.{horizon}
use Rattle.collection.specs.Contents.{offset_of, length_of, rule_of, body_of}
use Rattle.lines.specs.Line.{line_most}
use Rattle.lines.proofs.Lengths.{Five, line_short}
use Rattle.listing_text.specs.Listing.{input_limit, entry_line}

body_short : (file : List ℕ) (i : ℕ) → length (body_of file i) ≤ length file
body_short file i =
    let t = length-take (length_of file i) (drop (offset_of file i) file) in
    let d = length-drop (offset_of file i) file in
    omega (arith, t, d)

-- the line of an entry is no longer than the longest
pub entry_short : (limit : ℕ) (file : List ℕ) (i : ℕ) → Five (horizon limit) → length file ≤ input_limit → rule_of file i < 65536
    → length (entry_line limit file i) ≤ line_most
entry_short limit file i small long low =
    line_short limit (rule_of file i) (body_of file i) small (omega (arith, low)) (let b = body_short file i in omega (arith, b, long))

-- one more line is put
pub line_more : (line : ℕ → List ℕ) (header : List ℕ) (i : ℕ) {text next : List ℕ} → text ≡ header ++ each i line → next ≡ text ++ line i
    → next ≡ header ++ each (i + 1) line
unfolding each
line_more line header i e f =
    f ∙ ap (λ (l : List ℕ). l ++ line i) e ∙ append_assoc header (each i line) (line i) ∙ ap (λ (j : ℕ). header ++ each j line) (sym (add-one i))
