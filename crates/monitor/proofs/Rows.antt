-- Where the next states of a state stand, and that all of them are few.
use mathlib.Core.Path.{◌≡◌, subst}
use mathlib.Core.List.{List}
use Prim.Native.Nat.{ℕ, ◌+◌, ◌*◌, ◌/◌, ◌-◌, ◌≤◌, ◌<◌}
use native.Mathlib.Nat.{mul-le-mul, mul-le-mul_right}
use native.Mathlib.Omega.{arith}
use lib.Arith.{digits_lt, digits_div}
use lib.ListN.{length, get_or}
use Rattle.theory.specs.Automaton.{Closed}
use Rattle.theory.specs.Monitor.{symbol_limit}
use Rattle.monitor.specs.Format.{Rows, automaton_of}

pub rows_most : {limit n k : ℕ} {ts : List ℕ} → Rows limit n k ts → length ts ≤ limit * symbol_limit
rows_most r = omega (arith, r.rows_length, mul-le-mul r.states_most r.symbols_most)

pub place_in : {limit n k q a : ℕ} {ts : List ℕ} → Rows limit n k ts → q < n → a < k → q * k + a < length ts
place_in r l h = omega (arith, r.rows_length, digits_lt l h)

pub row_end : {limit n k q : ℕ} {ts : List ℕ} → Rows limit n k ts → q < n → q * k + k ≤ length ts
row_end {n = n} {k = k} {q = q} r l = omega (arith, r.rows_length, mul-le-mul_right k l)

-- a place in row q belongs to state q
pub row_of : (q k : ℕ) {i : ℕ} → q * k ≤ i → i < q * k + k → i / k ≡ q
row_of q k {i} l h =
    let e : q * k + (i - q * k) ≡ i = omega arith in
    subst (λ (x : ℕ). x / k ≡ q) e (digits_div q (omega arith))

pub next_inside : (n k : ℕ) (ts : List ℕ) → length ts ≡ n * k → ((i : ℕ) → i < length ts → get_or ts i 0 < n) → Closed (automaton_of n k ts)
next_inside n k ts e inside = record { next_in = λ q a l h. inside (q * k + a) (omega (arith, digits_lt l h)) }

pub next_of_rows : {limit n k : ℕ} {ts : List ℕ} → Rows limit n k ts → Closed (automaton_of n k ts)
next_of_rows {n = n} {k = k} {ts = ts} r = next_inside n k ts r.rows_length r.inside
