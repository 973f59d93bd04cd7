-- Entries made one by one: what is left to be entered makes the whole.
use mathlib.Core.Path.{◌≡◌}
use mathlib.Core.Bool.{Bool, cond}
use mathlib.Core.List.{List}
use Prim.Native.Nat.{ℕ, ◌<◌}
use Rattle.theory.specs.Monitor.{state_limit}
use Rattle.square.specs.Square.{entry}

-- entering d for the pairs that are left, in what there is, makes what the whole makes of what there was
pub record Entering (before : List ℕ) (whole : ℕ → ℕ → Bool) (d : ℕ) (after : List ℕ) (left : ℕ → ℕ → Bool) : Type 0 where
  pub at : (p q : ℕ) → p < state_limit → q < state_limit → cond (left p q) d (entry after p q) ≡ cond (whole p q) d (entry before p q)
