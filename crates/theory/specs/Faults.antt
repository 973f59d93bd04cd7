-- The faults of a link as fault steps. Only these definitions say what a kind of fault does; the cards and the listing
-- name the kinds by their bits, and all else is about any fault step.
use Rattle.std.specs.Prelude.{Bool, cond, List, [], ◌∷◌, ℕ, zero, suc, ◌-◌, ◌/◌, ◌%◌, ◌^◌, eqb}
use Rattle.std.specs.Int.Bits.{bit_or}
use Rattle.theory.specs.Lists.{each}

-- a fault at work: its kind (01's fixed bit), the symbols it covers, the symbols delivered in their place, and the
-- replacement ("0 except for corruption")
pub record FaultStep : Type 0 where
  pub kind : ℕ
  pub sent : List ℕ
  pub received : List ℕ
  pub replacement : ℕ

-- "Loss takes one message out."
abbrev pub loss : ℕ → FaultStep
loss a = record { kind = 1; sent = a ∷ []; received = []; replacement = 0 }

-- "Corruption puts any message in place of one": the same one included
abbrev pub corruption : ℕ → ℕ → FaultStep
corruption a b = record { kind = 2; sent = a ∷ []; received = b ∷ []; replacement = b }

-- "Repeat sends one twice in a row."
abbrev pub repeat : ℕ → FaultStep
repeat a = record { kind = 4; sent = a ∷ []; received = a ∷ a ∷ []; replacement = 0 }

-- "Swap exchanges two neighbours": equal ones included
abbrev pub swap : ℕ → ℕ → FaultStep
swap a b = record { kind = 8; sent = a ∷ b ∷ []; received = b ∷ a ∷ []; replacement = 0 }

-- how many kinds there are; their ranks count from 0 in the written order, and rank c has the bit 2 ^ c
abbrev pub kinds : ℕ
kinds = 4

-- the set of all faults, the greatest there is: 15
abbrev pub all_faults : ℕ
all_faults = 2 ^ kinds - 1

-- no fault: nothing sent, nothing received, no kind's bit
abbrev pub no_step : FaultStep
no_step = record { kind = 0; sent = []; received = []; replacement = 0 }

-- the fault step of rank c at symbol a; b is the replacement or the neighbour. From rank 4 on there is no kind
abbrev pub step_of : ℕ → ℕ → ℕ → FaultStep
step_of zero a b = loss a
step_of (suc zero) a b = corruption a b
step_of (suc (suc zero)) a b = repeat a
step_of (suc (suc (suc zero))) a b = swap a b
step_of (suc (suc (suc (suc c)))) a b = no_step

-- how many b there are for rank c among k symbols; where a kind has no second symbol, b is 0 alone
abbrev pub seconds : ℕ → ℕ → ℕ
seconds zero k = 1
seconds (suc zero) k = k
seconds (suc (suc zero)) k = 1
seconds (suc (suc (suc zero))) k = k
seconds (suc (suc (suc (suc c)))) k = 0

-- the kind of rank c is in the fault set: "Each fault has its fixed bit"
abbrev pub holds : ℕ → ℕ → Bool
holds set c = eqb (set / 2 ^ c % 2) 1

-- the rank of repetition
abbrev pub repetition : ℕ
repetition = 2

-- "Two sets together hold each fault that is in either."
abbrev pub together : ℕ → ℕ → ℕ
together F G = bit_or F G

-- the fault steps of rank c among k symbols
abbrev pub steps_of_kind : ℕ → ℕ → List FaultStep
steps_of_kind k c = each k (λ a. each (seconds c k) (λ b. step_of c a b ∷ []))

-- the fault steps of a set among k symbols, in the written order: "by kind (loss, corruption, repeat, swap), then sent
-- messages, then replacement"
unfoldable pub steps : ℕ → ℕ → List FaultStep
steps set k = each kinds (λ c. cond (holds set c) (steps_of_kind k c) [])
