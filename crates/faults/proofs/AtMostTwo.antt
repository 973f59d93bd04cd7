-- At most two symbols as a trace: its length, its symbols by the count, and the state after it.
use mathlib.Core.Path.{◌≡◌, ap, ◌∙◌}
use mathlib.Core.List.{[], ◌∷◌}
use Prim.Native.Nat.{ℕ, ◌≤◌, ◌<◌}
use native.Mathlib.Omega.{arith}
use lib.ListN.{length, length-take}
use Rattle.theory.specs.Automaton.{Automaton, run}
use Rattle.faults.specs.declared.Symbols.{Symbols}
use Rattle.faults.specs.Steps.{trace_of, Inside}

pub count_is : (s : Symbols) → s.count ≤ 2 → s.count ≡ length (trace_of s)
count_is s l = omega (arith, length-take s.count (s.first ∷ s.second ∷ []))

-- a count that is neither 0 nor 1
pub count_two : {k : ℕ} {s : Symbols} → Inside k s → (s.count ≡ 0 → ⊥) → (s.count ≡ 1 → ⊥) → s.count ≡ 2
count_two i some more = omega (arith, i.count_most, some, more)

pub inside : {k c a b : ℕ} {s : Symbols} → s ≡ record { count = c; first = a; second = b } → c ≤ 2 → a < k → b < k → Inside k s
inside e l la lb = rw e (record { count_most = l; first_in = la; second_in = lb })

-- also below a greater bound
pub inside_wider : {k m : ℕ} {s : Symbols} → Inside k s → k ≤ m → Inside m s
inside_wider i l = record { count_most = i.count_most; first_in = omega (arith, i.first_in); second_in = omega (arith, i.second_in) }

-- ---- one symbol, or two, from p

module _ (g : Automaton) {p a x : ℕ} (first : x ≡ g.next p a) where
  pub run_one : x ≡ run g p (a ∷ [])
  unfolding run
  run_one = first

  pub run_two : {b y : ℕ} → y ≡ g.next x b → y ≡ run g p (a ∷ b ∷ [])
  unfolding run
  run_two {b = b} second = second ∙ ap (λ (q : ℕ). g.next q b) first
