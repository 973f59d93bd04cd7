-- The fault steps of a set from a cursor on, in the written order.
use Rattle.std.specs.Prelude.{cond, List, [], ◌∷◌, ◌++◌, ℕ, zero, suc, ◌+◌, ◌-◌, ◌<◌, Option, None, Some}
use Rattle.std.specs.Option.{ForSome}
use Rattle.theory.specs.Lists.{each}
use Rattle.theory.specs.Faults.{FaultStep, kinds, step_of, seconds, holds, steps_of_kind}
use Rattle.faults.specs.declared.Cursor.{Cursor}
use Rattle.faults.specs.Kinds.{rank_of}

-- ---- the steps of a set, kind by kind and symbol by symbol

-- the fault step of this rank at symbol a with b, alone
abbrev pub step_with : ℕ → ℕ → ℕ → List FaultStep
step_with rank a b = step_of rank a b ∷ []

-- the fault steps of this rank at symbol a
abbrev pub steps_from : ℕ → ℕ → ℕ → List FaultStep
steps_from k rank a = each (seconds rank k) (step_with rank a)

-- the fault steps of this rank, where the set has the kind
abbrev pub steps_if_held : ℕ → ℕ → ℕ → List FaultStep
steps_if_held set k rank = cond (holds set rank) (steps_of_kind k rank) []

-- ---- from a number on

module _ {A : Type 0} where
  -- c lists one after the other: those of i, i + 1, ..
  unfoldable pub following : ℕ → ℕ → (ℕ → List A) → List A
  following zero i f = []
  following (suc c) i f = f i ++ following c (suc i) f

  -- the lists of i, i + 1, .. n - 1, one after the other
  abbrev pub between : ℕ → ℕ → (ℕ → List A) → List A
  between i n f = following (n - i) i f

-- the fault steps of the set from this rank on
abbrev pub steps_onward : ℕ → ℕ → ℕ → List FaultStep
steps_onward set k rank = between rank kinds (steps_if_held set k)

-- ---- from a cursor on

-- the symbols at a cursor are among k
pub record Placed (k : ℕ) (at : Cursor) : Type 0 where
  pub first_in : at.first < k
  pub second_in : at.second < seconds (rank_of at.kind) k

-- those at the next cursor, if there is one
abbrev pub PlacedNext : ℕ → Option Cursor → Type 0
PlacedNext k next = ForSome next (Placed k)

-- the fault step at a cursor
abbrev pub step_at : Cursor → FaultStep
step_at at = step_of (rank_of at.kind) at.first at.second

-- the fault steps from the next cursor on: at its symbol, at later symbols of its kind, of later kinds; behind the last
-- there is none
abbrev pub left : ℕ → ℕ → Option Cursor → List FaultStep
left set k None = []
left set k (Some at) =
    (between at.second (seconds (rank_of at.kind) k) (step_with (rank_of at.kind) at.first)
    ++ between (at.first + 1) k (steps_from k (rank_of at.kind)))
    ++ steps_onward set k (rank_of at.kind + 1)
