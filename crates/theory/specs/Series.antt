-- Series of steps with one fault step among them, the written order, and all series of one length in that order.
use Rattle.std.specs.Prelude.{◌≡◌, Bool, cond, ◌⊎◌, ℕ, zero, suc, ◌-◌, ◌<◌, leb, length}
use mathlib.Core.List.{List, [], ◌∷◌, ◌++◌, map, flat_map}
use Rattle.theory.specs.Lists.{In, each}
use Rattle.theory.specs.Automaton.{Automaton, Trace, run}
use Rattle.theory.specs.Faults.{FaultStep}

-- "a series of steps: plain messages and exactly one fault step": the plain symbols before it, the fault step, the
-- plain symbols after it
pub record Series : Type 0 where
  pub before : List ℕ
  pub fault : FaultStep
  pub after : List ℕ

-- "The sent trace is the one before the fault."
abbrev pub sent_trace : Series → List ℕ
sent_trace s = s.before ++ (s.fault.sent ++ s.after)

-- the trace after the fault
abbrev pub received_trace : Series → List ℕ
received_trace s = s.before ++ (s.fault.received ++ s.after)

-- a series of an automaton's symbols and one of the fault steps in the list
pub record Valid (g : Automaton) (faults : List FaultStep) (s : Series) : Type 0 where
  pub before_trace : Trace g s.before
  pub known : In s.fault faults
  pub after_trace : Trace g s.after

-- "After the series the sent and received readings differ", for any test `ends` of the two states reached from q
abbrev pub harmful : Automaton → (ℕ → ℕ → Bool) → ℕ → Series → Bool
harmful g ends q s = ends (run g q (sent_trace s)) (run g q (received_trace s))

-- ---- the written order

-- symbols compared one by one, in lists of one length
abbrev pub Lower : List ℕ → List ℕ → Type 0
Lower [] w = ⊥
Lower (a ∷ v) [] = ⊥
Lower (a ∷ v) (b ∷ w) = (a < b) ⊎ ((a ≡ b) × Lower v w)

-- "fault steps by kind (loss, corruption, repeat, swap), then sent messages, then replacement"
abbrev pub StepFirst : FaultStep → FaultStep → Type 0
StepFirst s t =
    (s.kind < t.kind)
    ⊎ ((s.kind ≡ t.kind)
    × (Lower s.sent t.sent ⊎ ((s.sent ≡ t.sent) × (s.replacement < t.replacement))))

-- "compared step by step: a fault step before a plain one; [..] plain steps by message"
abbrev pub StepByStep : List ℕ → FaultStep → List ℕ → List ℕ → FaultStep → List ℕ → Type 0
StepByStep [] s v [] t w = StepFirst s t ⊎ ((s ≡ t) × Lower v w)
StepByStep [] s v (b ∷ y) t w = Unit {0}
StepByStep (a ∷ x) s v [] t w = ⊥
StepByStep (a ∷ x) s v (b ∷ y) t w = (a < b) ⊎ ((a ≡ b) × StepByStep x s v y t w)

-- "The shorter sent trace comes first; among equals, the series are compared step by step"
abbrev pub Precedes : Series → Series → Type 0
Precedes s t =
    (length (sent_trace s) < length (sent_trace t))
    ⊎ ((length (sent_trace s) ≡ length (sent_trace t))
    × StepByStep s.before s.fault s.after t.before t.fault t.after)

-- ---- all of one length (proofs/Series.antt: exactly the valid ones, rising in the written order)

-- the traces of l symbols out of k
unfoldable pub words : ℕ → ℕ → List (List ℕ)
words k zero = [] ∷ []
words k (suc l) = each k (λ a. map (λ (w : List ℕ). a ∷ w) (words k l))

-- the series that begin with the fault step s, with l symbols sent
abbrev pub struck : ℕ → ℕ → FaultStep → List Series
struck k l s =
    cond (leb (length s.sent) l)
    (map (λ (w : List ℕ). record { before = []; fault = s; after = w }) (words k (l - length s.sent)))
    []

-- a plain step before a series
abbrev pub plain : ℕ → Series → Series
plain a s = record { before = a ∷ s.before; fault = s.fault; after = s.after }

-- the series with l symbols sent: those that begin with a fault step, then those that begin with a plain one
unfoldable pub series : List FaultStep → ℕ → ℕ → List Series
series faults k zero = flat_map (struck k zero) faults
series faults k (suc l) = flat_map (struck k (suc l)) faults ++ each k (λ a. map (plain a) (series faults k l))
