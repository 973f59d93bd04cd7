-- When the verdict of a trace falls (02, note 1). The count stands here twice: by the beginnings of the trace, and as a
-- value that computes. proofs/Count.antt shows that the two say the same.
use Rattle.std.specs.Prelude.{◌≡◌, cond, List, [], ◌∷◌, ◌++◌, ℕ, ◌+◌, ◌<◌}
use Rattle.theory.specs.Extent.{Extent, number, missing, ShortestLength}
use Rattle.theory.specs.Automaton.{run}
use Rattle.theory.specs.Monitor.{Monitor, marked}

-- from state q: the trace begins with v, and after v the verdict is true or false
pub record Decided (m : Monitor) (q : ℕ) (trace v : List ℕ) : Type 0 where
  pub rest : List ℕ
  pub begins : v ++ rest ≡ trace
  pub decides : 0 < m.verdict (run m.automaton q v)

-- "after how many messages the mark first became true or false"; missing stands for 02's never
abbrev pub FirstVerdict : Monitor → List ℕ → Extent → Type 0
FirstVerdict m trace = ShortestLength (Decided m m.start trace)

-- i messages later; never stays never
abbrev pub later : ℕ → Extent → Extent
later i missing = missing
later i (number j) = number (i + j)

-- the count from state q on: 0 where its verdict is true or false; else never at the end of the trace, and before it
-- one more than from the next state on
unfoldable pub count_from : Monitor → ℕ → List ℕ → Extent
count_from m q [] = cond (marked m 0 q) missing (number 0)
count_from m q (a ∷ w) = cond (marked m 0 q) (later 1 (count_from m (m.automaton.next q a) w)) (number 0)

-- the count of a trace, by the verdicts whatever the reading
abbrev pub verdict_count : Monitor → List ℕ → Extent
verdict_count m w = count_from m m.start w
