-- Which fault steps are meant, and which of them are enough to find what the cheapest costs.
use Rattle.std.specs.Prelude.{◌≡◌, true, List, ℕ, zero, suc, ◌≤◌, ◌<◌, min}
use Rattle.theory.specs.Lists.{In}
use Rattle.theory.specs.Faults.{FaultStep, step_of, seconds, holds, steps}
use Rattle.square.specs.declared.Test.{Test}
use Rattle.square.specs.declared.Test.TheVariants.{Differ, Misread}
use Rattle.square.specs.Square.{entry}

-- the fault steps that are meant for 0, 1, .. n - 1
abbrev pub Upto : (ℕ → FaultStep → Type 0) → ℕ → FaultStep → Type 0
Upto These n s = (i : ℕ) × (i < n) × These i s

-- the fault step of this rank at symbol a with b, where b is not below `from`
abbrev pub OfSecond : ℕ → ℕ → ℕ → ℕ → FaultStep → Type 0
OfSecond rank a from b s = (from ≤ b) × (s ≡ step_of rank a b)

-- the fault steps of this rank among k symbols, at symbol a, with the second symbols from `from` on
abbrev pub OfFirst : ℕ → ℕ → ℕ → ℕ → FaultStep → Type 0
OfFirst rank k a from = Upto (OfSecond rank a from) (seconds rank k)

-- the fault steps of this rank
abbrev pub OfKind : ℕ → ℕ → FaultStep → Type 0
OfKind rank k = Upto (λ a. OfFirst rank k a 0) k

-- the same where the set has the kind
abbrev pub OfHeld : ℕ → ℕ → ℕ → FaultStep → Type 0
OfHeld set k rank s = (holds set rank ≡ true) × OfKind rank k s

-- the fault steps of a set
abbrev pub OfSet : ℕ → ℕ → FaultStep → Type 0
OfSet set k s = In s (steps set k)

-- ---- fewer looks, where readings that differ are the test

-- how many first symbols are looked at: of corruption, symbol 0 alone
abbrev pub firsts : Test → ℕ → ℕ → ℕ
firsts Differ zero k = k
firsts Differ (suc zero) k = min 1 k
firsts Differ (suc (suc c)) k = k
firsts (Misread v) c k = k

-- from which second symbol on: of swap, neighbours that do not fall
abbrev pub second_from : Test → ℕ → ℕ → ℕ
second_from Differ zero a = 0
second_from Differ (suc zero) a = 0
second_from Differ (suc (suc zero)) a = 0
second_from Differ (suc (suc (suc zero))) a = a
second_from Differ (suc (suc (suc (suc c)))) a = 0
second_from (Misread v) c a = 0

-- what makes them enough: the order of a pair does not matter, and what tells two states apart tells one of them from
-- any third
pub record Ultrametric (n : ℕ) (square : List ℕ) : Type 0 where
  pub symmetric : (p q : ℕ) → p < n → q < n → entry square p q ≡ entry square q p
  pub through : (p q r : ℕ) → p < n → q < n → r < n → min (entry square p q) (entry square q r) ≤ entry square p r

-- a square in which the looks of a test are enough
abbrev pub Suited : Test → ℕ → List ℕ → Type 0
Suited test n square = test ≡ Differ → Ultrametric n square
