-- Lists of any kind: what is in a list, whether some element passes a test, the first that does, lists joined number by
-- number, rising lists.
use Rattle.std.specs.Prelude.{◌≡◌, Bool, false, cond, ◌||◌, List, [], ◌∷◌, ◌++◌, ◌⊎◌, ℕ, zero, suc}
use Rattle.std.proofs.Math.Option.{Option, none, some}

module _ {A : Type 0} where
  -- x stands in the list
  abbrev pub In : A → List A → Type 0
  In x [] = ⊥
  In x (y ∷ ys) = (x ≡ y) ⊎ In x ys

  -- some element of the list passes the test
  unfoldable pub any_in : (A → Bool) → List A → Bool
  any_in f [] = false
  any_in f (x ∷ xs) = f x || any_in f xs

  -- the first of the list that passes the test
  unfoldable pub find : (A → Bool) → List A → Option A
  find f [] = none
  find f (x ∷ xs) = cond (f x) (some x) (find f xs)

  -- the lists of 0, 1, .. n - 1, one after the other
  unfoldable pub each : ℕ → (ℕ → List A) → List A
  each zero f = []
  each (suc i) f = each i f ++ f i

  -- every element stands before each later one
  abbrev pub Rising : (A → A → Type 0) → List A → Type 0
  Rising R [] = Unit {0}
  Rising R (x ∷ xs) = ((y : A) → In y xs → R x y) × Rising R xs
