-- What a search by pairs begins with.
use Rattle.std.specs.Prelude.{◌≡◌, true, ℕ, ◌<◌}
use Rattle.state_set.specs.Member.{set_at}
use Rattle.square.specs.Square.{Blank}
use Rattle.rows.specs.declared.search.Search.{Search}
use Rattle.rows.specs.Sets.{Empty}

-- for n states no pair is told apart, the sets of alike states are empty, and every row is active
pub record Begins (n : ℕ) (search : Search) : Type 0 where
  pub blank : Blank n search.square.now
  pub alike_none : Empty n search.alike
  pub active_all : (w p : ℕ) → w < 2 → p < n → set_at search.active w p ≡ true
