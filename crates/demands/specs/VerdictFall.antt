-- When the verdict of a trace falls (02, note 1) as one claim about an accepted table and a trace of it.
use Rattle.std.specs.Prelude.{◌≡◌, List, ◌↔◌, ◌⊎◌, ℕ, ◌≤◌, ◌<◌, length, take}
use Rattle.theory.specs.Answer.{answered}
use Rattle.theory.specs.Extent.{Extent, number, missing}
use Rattle.theory.specs.Count.{FirstVerdict, verdict_count}
use Rattle.theory.specs.Series.{Series, sent_trace, received_trace}
use Rattle.theory.specs.Distance.{reads, Witness}
use Rattle.theory.specs.Trust.{Misreading}
use Rattle.monitor.specs.Format.{monitor_of}
use Rattle.readings.specs.Readings.{trace_answer}

-- `limit` is the greatest number of states
pub record VerdictFall (limit : ℕ) (b w : List ℕ) : Type 0 where
  -- the count is the least number of messages after which the verdict is true or false, or missing; there is no other
  pub least : FirstVerdict (monitor_of b) w (verdict_count (monitor_of b) w)
  pub only : (e : Extent) → FirstVerdict (monitor_of b) w e → e ≡ verdict_count (monitor_of b) w
  -- "0 if the start is already marked", or settled
  pub at_start : 0 < (monitor_of b).verdict (monitor_of b).start → verdict_count (monitor_of b) w ≡ number 0
  -- never, exactly "if the trace ends at not yet"
  pub never : (verdict_count (monitor_of b) w ≡ missing) ↔ (reads (monitor_of b) 3 w ≡ 0)
  -- a count is at most the trace's length, and the verdict after so many messages is that at the end
  pub kept : (i : ℕ) → verdict_count (monitor_of b) w ≡ number i
      → (i ≤ length w) × (reads (monitor_of b) 3 (take i w) ≡ reads (monitor_of b) 3 w)
  -- under both readings the trace is answered with its reading and this count
  pub answers : (d : ℕ) → (d ≡ 3) ⊎ (d ≡ 6)
      → trace_answer limit b d w
      ≡ answered (record { reading = reads (monitor_of b) d w; count = verdict_count (monitor_of b) w })

-- the above holds of the sent and of the received trace of a series
pub record BothFall (limit : ℕ) (b : List ℕ) (s : Series) : Type 0 where
  pub sent : VerdictFall limit b (sent_trace s)
  pub received : VerdictFall limit b (received_trace s)

-- "Every witness carries the count of its sent and of its received trace as well": that of the fault question and that
-- against a verdict
pub record WitnessFall (limit : ℕ) (b : List ℕ) (d set : ℕ) (s : Series) : Type 0 where
  pub witness : Witness (monitor_of b) d set s → BothFall limit b s
  pub misreading : (v : ℕ) → Misreading (monitor_of b) d set v s → BothFall limit b s
