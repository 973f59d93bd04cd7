-- Reading a trace up to its first verdict.
use Rattle.std.specs.Prelude.{◌≡◌, cond, List, [], ◌∷◌, ℕ, ◌<◌, length}
use Rattle.theory.specs.Automaton.{run}
use Rattle.theory.specs.Monitor.{Monitor, marked}
use Rattle.readings.specs.declared.answers.Progress.{Progress}

-- the symbols of w that are read from state q on until a verdict falls; all of them where none falls
unfoldable pub until_verdict : Monitor → ℕ → List ℕ → List ℕ
until_verdict m q [] = []
until_verdict m q (a ∷ w) = cond (marked m 0 q) (a ∷ until_verdict m (m.automaton.next q a) w) []

-- where reading them from state q on ends, and how many they are
pub record Followed (m : Monitor) (q : ℕ) (w : List ℕ) (to : Progress) : Type 0 where
  pub arrives : to.state ≡ run m.automaton q (until_verdict m q w)
  pub counts : to.read ≡ length (until_verdict m q w)
  pub inside : to.state < m.automaton.states
