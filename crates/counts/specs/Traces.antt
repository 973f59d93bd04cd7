-- A sent trace and a fault that strikes it, as the search hands them over.
use Rattle.std.specs.Prelude.{◌≡◌, List, ◌++◌, ℕ, ◌+◌, ◌≤◌, length, take, drop}
use Rattle.monitor.specs.Questions.{first_not_below}
use Rattle.faults.specs.declared.Fault.{Fault}
use Rattle.faults.specs.Steps.{trace_of, Ranged}

-- what is received: the fault covers the symbols behind the first `before` and delivers others in their place
abbrev pub delivered_trace : List ℕ → ℕ → Fault → List ℕ
delivered_trace w before f = take before w ++ (trace_of f.received ++ drop (before + f.sent.count) w)

-- a fault that strikes within a trace of k symbols
pub record FaultWithin (k : ℕ) (w : List ℕ) (before : ℕ) (f : Fault) : Type 0 where
  pub trace : first_not_below k w ≡ length w
  pub ranged : Ranged k f
  pub within : before + f.sent.count ≤ length w
