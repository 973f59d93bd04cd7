-- The first witness, the first witness against a verdict, and the distance, computed: the first harmful series among
-- all that are not longer than a horizon. That no more is needed is a law (proofs/Witness.antt).
use Rattle.std.specs.Prelude.{Bool, not, ◌&&◌, List, ℕ, suc, ◌+◌, ◌*◌, eqb, length}
use Rattle.std.proofs.Math.Option.{Option, none, some}
use Rattle.theory.specs.Lists.{find, each}
use Rattle.theory.specs.Automaton.{Automaton}
use Rattle.theory.specs.Monitor.{Monitor, reading}
use Rattle.theory.specs.Faults.{FaultStep}
use Rattle.theory.specs.Series.{Series, sent_trace, harmful, series}
use Rattle.theory.specs.Extent.{Extent, number, missing}
use Rattle.theory.specs.Distance.{differ, faults_of}

-- with n states, if any series is harmful, one with at most so many symbols sent is
abbrev pub horizon : ℕ → ℕ
horizon n = n * n + n + 2

-- the first series in the written order that is harmful from q
unfoldable pub first_harmful : Automaton → (ℕ → ℕ → Bool) → List FaultStep → ℕ → Option Series
first_harmful g ends faults q = find (harmful g ends q) (each (suc (horizon g.states)) (series faults g.symbols))

-- the first witness of a table
abbrev pub first_witness : Monitor → ℕ → ℕ → Option Series
first_witness m d set = first_harmful m.automaton (differ m d) (faults_of m set) m.start

-- after the sent trace p is reached, after the received one q: q reads v, and p reads another verdict
abbrev pub misread : Monitor → ℕ → ℕ → ℕ → ℕ → Bool
misread m d v p q = eqb (reading m d q) v && not (eqb (reading m d p) v)

-- the first witness against the verdict v: "the first witness in 01's order whose received reading is that verdict and
-- whose sent reading is another"
abbrev pub first_misreading : Monitor → ℕ → ℕ → ℕ → Option Series
first_misreading m d set v = first_harmful m.automaton (misread m d v) (faults_of m set) m.start

-- how far a witness is, where there is one
abbrev pub extent_of : Option Series → Extent
extent_of none = missing
extent_of (some s) = number (length (sent_trace s))

-- the distance of a table
abbrev pub distance : Monitor → ℕ → ℕ → Extent
distance m d set = extent_of (first_witness m d set)
