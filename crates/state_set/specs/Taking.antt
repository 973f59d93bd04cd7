-- The states of a set, or the bits of a word, taken one after another.
use Rattle.std.specs.Prelude.{◌≡◌, Bool, true, false, not, ◌&&◌, Option, MatchOption, ℕ, ◌<◌, eqb}

-- q is the lowest number in a set of numbers below the limit
pub record Lowest (limit : ℕ) (set : ℕ → Bool) (q : ℕ) : Type 0 where
  pub found : set q ≡ true
  pub below : q < limit
  pub least : (p : ℕ) → p < q → set p ≡ false

-- and the rest is the set without it
pub record Taken (limit : ℕ) (set : ℕ → Bool) (q : ℕ) (rest : ℕ → Bool) : Type 0 where
  pub lowest : Lowest limit set q
  pub others : (p : ℕ) → rest p ≡ (set p && not (eqb p q))

-- the lowest number of a set, or none where the set is empty
abbrev pub Finds : ℕ → (ℕ → Bool) → Option ℕ → Type 0
Finds limit set r = MatchOption r ((q : ℕ) → set q ≡ false) (Lowest limit set)

-- it is taken out of the set, and out of an empty one nothing
abbrev pub Takes : ℕ → (ℕ → Bool) → Option ℕ → (ℕ → Bool) → Type 0
Takes limit set r rest = MatchOption r ((q : ℕ) → (set q ≡ false) × (rest q ≡ false)) (λ q. Taken limit set q rest)
