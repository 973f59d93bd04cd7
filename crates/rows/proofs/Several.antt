-- The rows of a set with one symbol, one after the other; the arrays keep their lengths.
use mathlib.Core.Path.{◌≡◌, refl, sym, ◌∙◌}
use mathlib.Core.Bool.{Bool, true, false, not, ◌&&◌, ◌||◌}
use mathlib.Core.List.{List}
use mathlib.Core.Logic.{◌⊎◌, inl, inr, ⊎_elim}
use Prim.Native.Nat.{ℕ, ◌+◌, ◌*◌, ◌<◌}
use lib.Dec.{eqb, ltb}
use borrow.Author.Tests.{eq-eqb, eqb-true, not-true}
use Rattle.theory.specs.Automaton.{Automaton}
use Rattle.theory.specs.Monitor.{symbol_limit}
use Rattle.theory.proofs.Below.{clash, or_cases, or_left, or_right, and_left, and_right, and_both}
use Rattle.state_set.specs.declared.StateSet.{StateSet}
use Rattle.state_set.specs.Member.{set_at}
use Rattle.rows.specs.Midway.{Midway, GoesAt, row_done, set_done}

-- ---- steps of a round, one after the other

-- where less is done, what is done stays
pub midway_less : {g : Automaton} {ends : ℕ → ℕ → Bool} {r : ℕ} {done less : ℕ → ℕ → ℕ → Bool} {square : List ℕ} {alike next active : List StateSet}
    {rows : ℕ → Bool}
    → Midway g ends r done square alike next active rows
    → ((p q a : ℕ) → p < g.states → q < g.states → a < g.symbols → less p q a ≡ true → done p q a ≡ true)
    → Midway g ends r less square alike next active rows
midway_less M l = record {
  kept = M.kept;
  active_rows = M.active_rows;
  old = M.old;
  known = M.known;
  new = M.new;
  covered = λ p q a lp lq la d. M.covered p q a lp lq la (l p q a lp lq la d);
}

module _ {g : Automaton} {r x : ℕ} {front : ℕ → Bool} {sets : List StateSet} {square₀ : List ℕ} {alike₀ next₀ active₀ : List StateSet} {rows₀ : ℕ → Bool} where
  pub goes_less : {more : ℕ → ℕ → ℕ → Bool} (less : ℕ → ℕ → ℕ → Bool) {square : List ℕ} {alike next active : List StateSet} {rows : ℕ → Bool}
      → GoesAt g r x front more sets square₀ alike₀ next₀ active₀ rows₀ square alike next active rows
      → ((p q b : ℕ) → p < g.states → q < g.states → b < g.symbols → less p q b ≡ true → more p q b ≡ true)
      → GoesAt g r x front less sets square₀ alike₀ next₀ active₀ rows₀ square alike next active rows
  goes_less {more} less step l = record {
    goes = λ ends done G F M.
        midway_less (step.goes ends done G F M) (λ p q b lp lq lb t. ⊎_elim
        (λ o. or_left (done p q b) (more p q b) o)
        (λ h. or_right (done p q b) (more p q b) (l p q b lp lq lb h))
        (or_cases (done p q b) (less p q b) t));
  }

  -- nothing is left to be done
  pub goes_nowhere : (less : ℕ → ℕ → ℕ → Bool) → ((p q b : ℕ) → p < g.states → less p q b ≡ true → ⊥)
      → GoesAt g r x front less sets square₀ alike₀ next₀ active₀ rows₀ square₀ alike₀ next₀ active₀ rows₀
  goes_nowhere less none = record {
    goes = λ ends done G F M. midway_less M (λ p q b lp lq lb t. ⊎_elim (λ o. o) (λ h. absurd (none p q b lp h)) (or_cases (done p q b) (less p q b) t));
  }

  pub goes_then : {more then : ℕ → ℕ → ℕ → Bool} {square : List ℕ} {alike next active : List StateSet} {square' : List ℕ}
      {alike' next' active' : List StateSet} {rows rows' : ℕ → Bool}
      → GoesAt g r x front more sets square₀ alike₀ next₀ active₀ rows₀ square alike next active rows
      → GoesAt g r x front then sets square alike next active rows square' alike' next' active' rows'
      → GoesAt g r x front (λ p q b. more p q b || then p q b) sets square₀ alike₀ next₀ active₀ rows₀ square' alike' next' active' rows'
  goes_then {more} {then} first second = record {
    goes = λ ends done G F M.
        midway_less (second.goes ends (λ p q b. done p q b || more p q b) G F (first.goes ends done G F M))
        (λ p q b lp lq lb t. by (done p q b) (more p q b) (then p q b) t);
  }
    where
      by : (d m h : Bool) → (d || (m || h)) ≡ true → ((d || m) || h) ≡ true
      by true m h t = refl
      by false m h t = t

-- what a set has lost
pub lost : (f g : Bool) → (f && not g) ≡ true → (f ≡ true) × (g ≡ false)
lost f g t = (and_left f (not g) t, not-true g (and_right f (not g) t))

pub keep : {f g : Bool} → f ≡ true → g ≡ false → (f && not g) ≡ true
keep ef eg = rw (ef, eg)

-- taken out of a set: it was not in it, or it is the one taken
pub taken : (left left' : ℕ → Bool) {y : ℕ} → ((q : ℕ) → left' q ≡ (left q && not (eqb q y))) → (q : ℕ) → left' q ≡ false → (left q ≡ false) ⊎ (q ≡ y)
taken left left' {y} is q h = go (left q) refl (eqb q y) refl
  where
    go : (b : Bool) → left q ≡ b → (c : Bool) → eqb q y ≡ c → (left q ≡ false) ⊎ (q ≡ y)
    go false e c k = inl e
    go true e true k = inr (eqb-true q y k)
    go true e false k = absurd (clash (is q ∙ rw (e, k)) h)

-- ---- the rows of a set with one symbol

-- all but those left are done
abbrev pub but_left : (ℕ → Bool) → (ℕ → ℕ → ℕ → Bool) → ℕ → ℕ → ℕ → Bool
but_left left more p q b = more p q b && not (left p)

-- the row of a predecessor of x is one with x
goes_into : {g : Automaton} {r : ℕ} (x a : ℕ) {front : ℕ → Bool} {more : ℕ → ℕ → ℕ → Bool} {sets : List StateSet} {square : List ℕ}
    {alike next active : List StateSet} {square' : List ℕ} {alike' next' active' : List StateSet}
    {rows rows' : ℕ → Bool} (y : ℕ) → set_at sets (x * symbol_limit + a) y ≡ true → x < g.states → a < g.symbols
    → GoesAt g r (g.next y a) front more sets square alike next active rows square' alike' next' active' rows'
    → GoesAt g r x front more sets square alike next active rows square' alike' next' active' rows'
goes_into {g} x a y h lx la step = record {
  goes = λ ends done G F M.
      let e = eqb-true (g.next y a) x (and_right (ltb y g.states) (eqb (g.next y a) x) (sym (G.preceding.at x a y lx la) ∙ h)) in
      step.goes ends done G (rw e F) M;
}

module _ {g : Automaton} (x a : ℕ) {r : ℕ} {front : ℕ → Bool} {sets : List StateSet} {square₀ : List ℕ} {alike₀ next₀ active₀ : List StateSet}
    {rows₀ : ℕ → Bool} (columns set : ℕ → Bool) where
  -- at the beginning all rows are left
  pub set_begins : GoesAt g r x front (but_left set (set_done columns set a)) sets square₀ alike₀ next₀ active₀ rows₀ square₀ alike₀ next₀ active₀ rows₀
  set_begins = goes_nowhere (but_left set (set_done columns set a)) (λ p q b lp t.
      let k = lost (set_done columns set a p q b) (set p) t in
      clash (and_left (set p) (eqb b a) (and_right (columns q) (set p && eqb b a) k.0)) k.1)

  -- one row more
  pub set_more : (left left' : ℕ → Bool) (y : ℕ) {square : List ℕ} {alike next active : List StateSet} {square' : List ℕ}
      {alike' next' active' : List StateSet} {rows rows' : ℕ → Bool}
      → set_at sets (x * symbol_limit + a) y ≡ true → x < g.states → a < g.symbols → ((q : ℕ) → left' q ≡ (left q && not (eqb q y)))
      → GoesAt g r x front (but_left left (set_done columns set a)) sets square₀ alike₀ next₀ active₀ rows₀ square alike next active rows
      → GoesAt g r (g.next y a) front (row_done columns y a) sets square alike next active rows square' alike' next' active' rows'
      → GoesAt g r x front (but_left left' (set_done columns set a)) sets square₀ alike₀ next₀ active₀ rows₀ square' alike' next' active' rows'
  set_more left left' y inside lx la is before step =
      goes_less (but_left left' (set_done columns set a)) (goes_then before (goes_into x a y inside lx la step)) (λ p q b lp lq lb t.
      let k = lost (set_done columns set a p q b) (left' p) t in
      ⊎_elim
      (λ w. or_left (but_left left (set_done columns set a) p q b) (row_done columns y a p q b) (keep k.0 w))
      (λ w. or_right (but_left left (set_done columns set a) p q b) (row_done columns y a p q b)
      (and_both (columns q) (eqb p y && eqb b a) (and_left (columns q) (set p && eqb b a) k.0)
      (and_both (eqb p y) (eqb b a) (eq-eqb p y w) (and_right (set p) (eqb b a) (and_right (columns q) (set p && eqb b a) k.0)))))
      (taken left left' is p k.1))

  pub set_ends : (left : ℕ → Bool) {square : List ℕ} {alike next active : List StateSet} {rows : ℕ → Bool} → ((p : ℕ) → left p ≡ false)
      → GoesAt g r x front (but_left left (set_done columns set a)) sets square₀ alike₀ next₀ active₀ rows₀ square alike next active rows
      → GoesAt g r x front (set_done columns set a) sets square₀ alike₀ next₀ active₀ rows₀ square alike next active rows
  set_ends left none before = goes_less (set_done columns set a) before (λ p q b lp lq lb t. keep t (none p))

  pub set_nothing : ((p : ℕ) → set p ≡ false)
      → GoesAt g r x front (set_done columns set a) sets square₀ alike₀ next₀ active₀ rows₀ square₀ alike₀ next₀ active₀ rows₀
  set_nothing none = set_ends set none set_begins
