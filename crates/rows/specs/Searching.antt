-- The search by pairs, with what it goes on with as one value and the fresh pairs as another.
use Rattle.std.specs.Prelude.{◌≡◌, Bool, false, List, ℕ}
use Rattle.theory.specs.Automaton.{Automaton}
use Rattle.state_set.specs.declared.StateSet.{StateSet}
use Rattle.state_set.specs.Member.{member}
use Rattle.rows.specs.declared.search.Fresh.{Fresh}
use Rattle.rows.specs.declared.search.Search.{Search}
use Rattle.rows.specs.Sets.{Empty}
use Rattle.rows.specs.Midway.{GoesAt}

-- no pair of n states is fresh
pub record Bare (n : ℕ) (fresh : Fresh) : Type 0 where
  pub sets : Empty n fresh.sets
  pub rows : (p : ℕ) → member fresh.rows p ≡ false

-- the round goes on: with what is at distance r from x, more is done, whatever the test of two states
abbrev pub Goes : (g : Automaton) (r x : ℕ) (front : ℕ → Bool) (more : ℕ → ℕ → ℕ → Bool) (predecessors : List StateSet)
    → Search → Fresh → Search → Fresh → Type 0
Goes g r x front more predecessors search next search' next' =
    GoesAt g r x front more predecessors search.square.now search.alike next.sets search.active (member next.rows)
    search'.square.now search'.alike next'.sets
    search'.active (member next'.rows)

-- it goes on in the same square
abbrev pub Stays : Search → Search → Type 0
Stays search search' = search'.square.ghost_name ≡ search.square.ghost_name
