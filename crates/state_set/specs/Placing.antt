-- States put into the sets of an array, each where it belongs.
use Rattle.std.specs.Prelude.{◌≡◌, Bool, ◌&&◌, ◌||◌, List, ℕ, eqb, length}
use Rattle.theory.specs.Below.{any}
use Rattle.state_set.specs.declared.StateSet.{StateSet}
use Rattle.state_set.specs.Member.{set_at}

-- each of `those` states q was put into the sets of the numbers `number q a`, for the first `count`
-- numbers a, and no state into another set
pub record Placed (number : ℕ → ℕ → ℕ) (count : ℕ) (those : ℕ → Bool) (before after : List StateSet) : Type 0 where
  pub size : length after ≡ length before
  pub at : (i q : ℕ) → set_at after i q ≡ (set_at before i q || (those q && any count (λ a. eqb i (number q a))))
