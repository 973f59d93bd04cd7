-- Marks and next states as parts of a body, and what questions 6 and 7 answered yes say of them.
use mathlib.Core.Path.{◌≡◌, ap, ◌∙◌}
use mathlib.Core.Bool.{Bool, true, false}
use mathlib.Core.List.{List}
use Prim.Native.Nat.{ℕ, ◌+◌, ◌*◌, ◌-◌, ◌≤◌, ◌<◌, min, zero-le}
use native.Mathlib.Nat.{le_refl}
use native.Mathlib.Omega.{arith}
use lib.ListN.{length, get_or, take, drop, length-take, length-drop}
use lib.Seq.{take_all}
use lib.Dec.{eqb}
use borrow.Author.Tests.{eq-eqb, ne_eqb, leb-true, leb-false}
use Rattle.theory.specs.Below.{first}
use Rattle.theory.proofs.Below.{not_clash, first_is, first_whole, first_none}
use Rattle.basics.proofs.Parts.{drop_least}
use Rattle.monitor.specs.Format.{states_of, symbols_of, drawn_marks, nexts, Rows}
use Rattle.monitor.specs.Questions.{not_below, first_not_below}
use Rattle.monitor.proofs.Head.{Head}

-- ---- parts

-- the next states that `next_states` lends
pub nexts_lent : (b : List ℕ) {n from : ℕ} → n ≡ states_of b → from ≡ min (3 + n) (length b) → take (length b - from) (drop from b) ≡ nexts b
nexts_lent b {n} {from} e f =
    take_all (length b - from) (drop from b) (simp length-drop (le_refl (length b - from)))
    ∙ ap (λ (i : ℕ). drop i b) (f ∙ ap (λ (i : ℕ). min (3 + i) (length b)) e)
    ∙ drop_least (3 + states_of b) b

module _ {limit : ℕ} {b : List ℕ} (h : Head limit b) where
  pub marks_length : length (drawn_marks b) ≡ states_of b
  marks_length = simp (length-take, length-drop) (omega (arith, h.exact))

  pub nexts_length : length (nexts b) ≡ states_of b * symbols_of b
  nexts_length = simp length-drop (omega (arith, h.exact))

-- ---- questions

pub all_below : (bound : ℕ) (l : List ℕ) → first_not_below bound l ≡ length l → (i : ℕ) → i < length l → get_or l i 0 < bound
all_below bound l e i h = leb-false bound (get_or l i 0) (first_none (not_below bound l) 0 (length l) i (omega arith) (omega arith) (omega arith))

pub below_all : (bound : ℕ) (l : List ℕ) → ((i : ℕ) → i < length l → get_or l i 0 < bound) → first_not_below bound l ≡ length l
below_all bound l h =
    first_is (not_below bound l) (length l) 0 (length l) zero-le (omega arith)
    (λ i _ b. not_clash (λ t. omega (arith, leb-true bound (get_or l i 0) t, h i b))) (λ b. absurd (omega arith))

-- what question 7 leaves of the next states
pub rows_of : {limit : ℕ} {b : List ℕ} → Head limit b → first_not_below (states_of b) (nexts b) ≡ length (nexts b)
    → Rows limit (states_of b) (symbols_of b) (nexts b)
rows_of {b = b} h e = record {
  states_most = h.states_most;
  symbols_most = h.symbols_most;
  rows_length = nexts_length h;
  inside = all_below (states_of b) (nexts b) e;
}

-- a search of c numbers that ends before all are passed, and one that passes all
pub less_apart : {m c : ℕ} → m < c → eqb m c ≡ false
less_apart {m} {c} l = ne_eqb m c (λ q. omega arith)

pub all_passed : (f : ℕ → Bool) {c m : ℕ} → m ≡ first f 0 c → c ≤ m → eqb m c ≡ true
all_passed f {c} {m} e l = eq-eqb m c (e ∙ first_whole f c e l)

-- the same of a list, from a search of the list as lent
pub lent_passed : (test : List ℕ → ℕ → Bool) {vs l : List ℕ} {m : ℕ} → vs ≡ l → m ≡ first (test vs) 0 (length vs) → length vs ≤ m
    → eqb (first (test l) 0 (length l)) (length l) ≡ true
lent_passed test {vs} p e g = rw (← p, ← e) (all_passed (test vs) e g)
