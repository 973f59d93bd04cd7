-- The fault steps that are handed out one after the other.
use Rattle.std.specs.Prelude.{◌≡◌, List, [], ◌∷◌, Option, None, Some}
use Rattle.theory.specs.Faults.{FaultStep}
use Rattle.faults.specs.declared.Fault.{Fault}
use Rattle.faults.specs.declared.steps.Steps.{Steps}
use Rattle.faults.specs.Steps.{step_for, Ranged}
use Rattle.faults.specs.Rest.{left}

-- the fault steps that are left
unfoldable pub rest : Steps → List FaultStep
rest s = left s.set.bits s.symbols s.next

-- the first of them is handed out, and its symbols are among those meant, or none is left
abbrev pub GivesStep : Steps → Option Fault → Steps → Type 0
GivesStep old None new = (rest old ≡ []) × (rest new ≡ [])
GivesStep old (Some fault) new =
    (rest old ≡ step_for fault ∷ rest new) × Ranged old.symbols fault × (new.symbols ≡ old.symbols)
