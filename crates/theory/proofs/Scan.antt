-- Loops that look for the first number that passes a test, or for whether there is one.
use mathlib.Core.Path.{◌≡◌, sym, ap, ◌∙◌}
use mathlib.Core.Bool.{Bool, true, false}
use mathlib.Core.Logic.{⊎_elim}
use Prim.Native.Nat.{ℕ, ◌+◌, ◌*◌, ◌≤◌, ◌<◌, zero-le}
use native.Mathlib.Nat.{le_refl, zero-mul, suc-mul, mul-le-mul_right}
use native.Mathlib.Numerals.{add-one}
use native.Mathlib.Omega.{arith}
use Rattle.theory.specs.Below.{any, first}
use Rattle.theory.proofs.Below.{clash, not_clash, lt_or_le, any_at, any_find, first_is, first_ge, first_below, first_here}

-- of the c numbers from a on, those before i fail the test
pub record Passed (f : ℕ → Bool) (a c i : ℕ) : Type 0 where
  pub from : a ≤ i
  pub upto : i ≤ a + c
  pub fails : (j : ℕ) → a ≤ j → j < i → f j ≡ false

pub scan_begins : (f : ℕ → Bool) (a c : ℕ) → Passed f a c a
scan_begins f a c = record { from = le_refl a; upto = omega arith; fails = λ j l h. absurd (omega arith) }

-- r is the first of the next d numbers: the scan passes them all, or stops at r
module _ {f : ℕ → Bool} {a c i : ℕ} (d : ℕ) (p : Passed f a c i) (l : i + d ≤ a + c) {r : ℕ} (e : r ≡ first f i d) where
  before : (j : ℕ) → a ≤ j → j < r → f j ≡ false
  before j g h = ⊎_elim (λ b. p.fails j g b) (λ b. first_below f i d j b (omega arith)) (lt_or_le j i)

  pub scan_skips : i + d ≤ r → Passed f a c (i + d)
  scan_skips s = record { from = omega (arith, p.from); upto = l; fails = λ j g h. before j g (omega arith) }

  pub scan_stops : r < i + d → r ≡ first f a c
  scan_stops s = sym (first_is f c a r (omega (arith, p.from, first_ge f i d)) (omega arith) before (λ _. ap f e ∙ first_here f i d (omega arith)))

pub scan_goes_on : {f : ℕ → Bool} {a c i : ℕ} → Passed f a c i → i < a + c → f i ≡ false → Passed f a c (i + 1)
scan_goes_on {f} {a} {c} {i} p l e = record {
  from = omega (arith, p.from);
  upto = omega arith;
  fails = λ j g h. ⊎_elim (λ b. p.fails j g b) (λ b. (let s : j ≡ i = omega arith in ap f s ∙ e)) (lt_or_le j i);
}

pub scan_finds : {f : ℕ → Bool} {a c i : ℕ} → Passed f a c i → f i ≡ true → i ≡ first f a c
scan_finds {f} {a} {c} {i} p e = sym (first_is f c a i p.from p.upto p.fails (λ _. e))

pub scan_ends : {f : ℕ → Bool} {a c i : ℕ} → Passed f a c i → a + c ≤ i → i ≡ first f a c
scan_ends {f} {a} {c} {i} p l = sym (first_is f c a i p.from p.upto p.fails (λ h. absurd (omega arith)))

-- where no number below c passes, the first is c
pub none_first : (f : ℕ → Bool) (c : ℕ) → any c f ≡ false → c ≡ first f 0 c
none_first f c e =
    scan_ends {i = c} (record { from = zero-le; upto = omega arith; fails = λ j _ l. not_clash (λ t. clash (any_at c f j l t) e) }) (omega arith)

-- whether some number below c passes
pub scan_some : {f : ℕ → Bool} {c i : ℕ} → Passed f 0 c i → i < c → f i ≡ true → true ≡ any c f
scan_some {f} {c} {i} p l e = sym (any_at c f i l e)

pub scan_none : {f : ℕ → Bool} {c i : ℕ} → Passed f 0 c i → c ≤ i → false ≡ any c f
scan_none {f} {c} p l = sym (not_clash (λ t. (let b = any_find c f t in clash b.2 (p.fails b.0 zero-le (omega (arith, b.1))))))

-- ---- row by row: row q has the k numbers from q * k on

pub rows_begin : (f : ℕ → Bool) (k c : ℕ) → Passed f 0 c (0 * k)
rows_begin f k c = rw (zero-mul k) (scan_begins f 0 c)

pub rows_go_on : {f : ℕ → Bool} {c r : ℕ} (q k : ℕ) → Passed f 0 c (q * k) → q * k + k ≤ c → r ≡ first f (q * k) k → q * k + k ≤ r → Passed f 0 c ((q + 1) * k)
rows_go_on q k p l e s = rw (add-one q, suc-mul q k) (scan_skips k p (omega arith) e s)

pub rows_stop : {f : ℕ → Bool} {c r : ℕ} (q k : ℕ) → Passed f 0 c (q * k) → q * k + k ≤ c → r ≡ first f (q * k) k → r < q * k + k → r ≡ first f 0 c
rows_stop q k p l e s = scan_stops k p (omega arith) e s

pub rows_end : {f : ℕ → Bool} {c : ℕ} (n q k : ℕ) → Passed f 0 c (q * k) → c ≡ n * k → n ≤ q → c ≡ first f 0 c
rows_end {f} {c} n q k p e l =
    let m : n * k ≤ q * k = mul-le-mul_right k l in
    (let d : c ≡ q * k = omega (arith, p.upto) in d ∙ scan_ends p (omega arith))
