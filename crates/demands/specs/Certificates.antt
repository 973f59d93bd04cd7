-- Proofs that come with bought tables (02, note 7) as one claim about an accepted table, a fault set and a reading.
use Rattle.std.specs.Prelude.{◌≡◌, List, [], ◌∷◌, ◌↔◌, ◌⊎◌, ℕ, ◌≤◌, ◌<◌}
use Rattle.std.proofs.Math.Option.{none}
use Rattle.theory.specs.Answer.{answered}
use Rattle.theory.specs.Certificate.{block_of, Certificate, NeverApart, made_blocks}
use Rattle.monitor.specs.Format.{states_of, monitor_of}
use Rattle.monitor.specs.Questions.{no_values}
use Rattle.immunity.specs.Findings.{fault_answer}
use Rattle.certificate.specs.Questions.{certificate_answer}
use Rattle.blocks.specs.Made.{blocks_answer}
use Rattle.demands.specs.DemandTwo.{Askable, Unharmed}

-- `limit` is the greatest number of states
pub record Certificates (limit : ℕ) (b : List ℕ) (set d : ℕ) : Type 0 where
  -- accepted exactly if valid
  pub accepts : Askable set d → (c : List ℕ)
      → (certificate_answer limit b set d c ≡ answered no_values) ↔ Certificate (monitor_of b) d set c
  -- "Accepted must mean immune": no trace is harmed, and the fault question says so, whatever the area
  pub immune : (c : List ℕ) → certificate_answer limit b set d c ≡ answered no_values → Unharmed (monitor_of b) d set
  pub said : (c : List ℕ) (room : ℕ) → certificate_answer limit b set d c ≡ answered no_values
      → fault_answer limit b set d room ≡ answered none
  -- "for every immune table at least one proof is accepted": the one that is made is accepted for exactly the sets to
  -- which the table is immune
  pub made : Askable set d
      → (certificate_answer limit b set d (made_blocks (monitor_of b) d) ≡ answered no_values)
      ↔ Unharmed (monitor_of b) d set
  -- in it the block of a state is the lowest state that is never told apart from it
  pub unapart : (q : ℕ) → q < states_of b → NeverApart (monitor_of b) d (block_of (made_blocks (monitor_of b) d) q) q
  pub lowest : (p q : ℕ) → q < states_of b → p < block_of (made_blocks (monitor_of b) d) q
      → ¬ (NeverApart (monitor_of b) d p q)
  -- it is written where the area has a byte for each state
  pub written : (room : ℕ) → (d ≡ 3) ⊎ (d ≡ 6) → states_of b ≤ room
      → blocks_answer limit b d room ≡ answered (states_of b ∷ [])
