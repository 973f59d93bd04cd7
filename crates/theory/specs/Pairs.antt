-- Pairs of states told apart by traces, for any test `ends` of the two states reached. Readings that differ are one
-- such test.
use Rattle.std.specs.Prelude.{◌≡◌, Bool, true, ◌||◌, List, ℕ, zero, suc}
use Rattle.theory.specs.Below.{any}
use Rattle.theory.specs.Extent.{Extent, ShortestLength}
use Rattle.theory.specs.Automaton.{Automaton, Trace, run}

module _ (g : Automaton) (ends : ℕ → ℕ → Bool) where
  -- the trace w takes p and q to two states that pass the test
  pub record Tells (p q : ℕ) (w : List ℕ) : Type 0 where
    pub trace : Trace g w
    pub apart : ends (run g p w) (run g q w) ≡ true

  -- some trace of at most r symbols does
  unfoldable pub told : ℕ → ℕ → ℕ → Bool
  told zero p q = ends p q
  told (suc r) p q = told r p q || any g.symbols (λ a. told r (g.next p a) (g.next q a))

  -- "a pair's distance is the fewest messages after which its two states read differently", here: pass the test;
  -- missing where no trace does it
  abbrev pub PairDistance : ℕ → ℕ → Extent → Type 0
  PairDistance p q = ShortestLength (Tells p q)
