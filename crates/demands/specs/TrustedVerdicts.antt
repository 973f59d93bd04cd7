-- Which verdicts can be believed (02, note 3) as one claim about an accepted table, a fault set, a reading and a
-- verdict.
use Rattle.std.specs.Prelude.{◌≡◌, List, [], ◌↔◌, ℕ, ◌<◌}
use Rattle.std.proofs.Math.Option.{none, some}
use Rattle.theory.specs.Answer.{answered}
use Rattle.theory.specs.Monitor.{Monitor, reading, verdicts_of}
use Rattle.theory.specs.Series.{Series, sent_trace}
use Rattle.theory.specs.Trust.{Trusted, TrustedUnderAny, FirstMisreading}
use Rattle.monitor.specs.Format.{monitor_of}
use Rattle.witness.specs.Figures.{FaultFigures, series_figures}
use Rattle.immunity.specs.Findings.{fault_answer}
use Rattle.trust.specs.Trust.{trust_answer, trust_trace}
use Rattle.demands.specs.DemandTwo.{Askable, Told}

-- what the values of an answer and the bytes written with it say: yes, and the verdict is trusted; or the figures and
-- the sent trace of the first witness against it
pub data Believed (m : Monitor) (d set v : ℕ) : FaultFigures → List ℕ → Type 0 where
  yes : Trusted m d set v → Believed m d set v none []
  no : (s : Series) → FirstMisreading m d set v s
      → Believed m d set v (some (series_figures (reading m d) m s)) (sent_trace s)

-- `limit` is the greatest number of states
pub record TrustedVerdicts (limit : ℕ) (b : List ℕ) (set d v : ℕ) : Type 0 where
  -- yes is said exactly if the verdict is trusted, whatever the area
  pub yes_exactly : (room : ℕ) → Askable set d → v < verdicts_of d
      → (trust_answer limit b set d v room ≡ answered none) ↔ Trusted (monitor_of b) d set v
  -- else there is a first witness against it, which is told where the area lent holds it
  pub untrusted : ¬ (Trusted (monitor_of b) d set v) → (s : Series) × FirstMisreading (monitor_of b) d set v s
  pub given : Askable set d → v < verdicts_of d → (s : Series) → FirstMisreading (monitor_of b) d set v s
      → Told (monitor_of b) d (trust_answer limit b set d v) (trust_trace b set d v) s
  -- an answer, with an area of any length, is right: yes, or the first witness
  pub answers : (room : ℕ) (values : FaultFigures) → trust_answer limit b set d v room ≡ answered values
      → Believed (monitor_of b) d set v values (trust_trace b set d v)
  -- there is only one first witness
  pub first : (s t : Series) → FirstMisreading (monitor_of b) d set v s → FirstMisreading (monitor_of b) d set v t
      → s ≡ t
  -- "a table is immune exactly if every verdict of the chosen reading is trustworthy"
  pub immune : (room : ℕ) → Askable set d
      → (fault_answer limit b set d room ≡ answered none)
      ↔ ((u : ℕ) → u < verdicts_of d → Trusted (monitor_of b) d set u)
  -- "trust under one fault is trust under any number, each from sent to received"
  pub any_number : Trusted (monitor_of b) d set v ↔ TrustedUnderAny (monitor_of b) d set v
