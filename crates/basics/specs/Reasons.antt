-- The numbers of the reasons to refuse.
use Rattle.std.specs.Prelude.{◌≡◌, ◌⊎◌, ◌<◌, ℕ, Result, MatchResult}
use Rattle.basics.specs.declared.refusal.Reason.{Reason}
use Rattle.basics.specs.declared.refusal.Reason.TheVariants as reason
use Rattle.basics.specs.declared.refusal.NoReason.{NoReason}

-- the number that 01 and 02 give each question, where it is answered no
abbrev pub number_of : Reason → ℕ
number_of reason.BodyTooShort = 1
number_of reason.StateCount = 2
number_of reason.SymbolCount = 3
number_of reason.BodyLength = 4
number_of reason.Start = 5
number_of reason.Mark = 6
number_of reason.NextState = 7
number_of reason.VerdictGivenUp = 8
number_of reason.FaultSet = 9
number_of reason.Reading = 10
number_of reason.State = 11
number_of reason.Symbol = 12
number_of reason.Room = 13
number_of reason.BlockCount = 14
number_of reason.BlockNumber = 15
number_of reason.BlockReadings = 16
number_of reason.BlockSteps = 17
number_of reason.BlockFaults = 18
number_of reason.Verdict = 19
number_of reason.FileTooShort = 20
number_of reason.RuleCount = 21
number_of reason.EntriesMissing = 22
number_of reason.RuleOrder = 23
number_of reason.BodyPlace = 24
number_of reason.FileEnd = 25
number_of reason.InputTooLong = 26
number_of reason.LengthCount = 27
number_of reason.LengthSum = 28

-- the reason with this number, or that none has it
abbrev pub Decodes : ℕ → Result Reason NoReason → Type 0
Decodes number r =
    MatchResult r (λ reason. number_of reason ≡ number) (λ e. (e.0 ≡ number) × ((number ≡ 0) ⊎ (28 < number)))
