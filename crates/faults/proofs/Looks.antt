-- Fewer looks are enough where readings that differ are the test: not being told apart by any trace up to a length is an equivalence.
use mathlib.Core.Path.{◌≡◌, refl, sym, ap, subst}
use mathlib.Core.Bool.{true, not}
use mathlib.Core.List.{List}
use mathlib.Core.Logic.{◌⊎◌, inl, inr, ⊎_elim}
use Prim.Native.Nat.{ℕ, zero, suc, ◌≤◌, ◌<◌, min, zero-le}
use native.Mathlib.Nat.{le_refl, le_antisymm}
use native.Mathlib.Omega.{arith}
use lib.Dec.{eqb}
use lib.ListN.{length, get_or}
use borrow.Author.Tests.{eqb-false, ne_eqb, not-true}
use Rattle.theory.specs.Automaton.{Automaton, Closed, run}
use Rattle.theory.specs.Pairs.{Tells}
use Rattle.theory.specs.Faults.{FaultStep, kinds, step_of, seconds}
use Rattle.theory.proofs.Below.{lt_or_le, same_or_not}
use Rattle.theory.proofs.Faults.{steps_held, held_steps}
use Rattle.square.specs.declared.Test.{Test}
use Rattle.square.specs.declared.Test.TheVariants.{Differ, Misread}
use Rattle.square.specs.Square.{never, entry, Squared, passing}
use Rattle.square.proofs.Path.{noted_least}
use Rattle.faults.specs.Steps.{plus, cost_of}
use Rattle.faults.specs.Looks.{Upto, OfFirst, OfKind, OfHeld, OfSet, firsts, second_from, Ultrametric, Suited}

-- ---- the square of readings that differ

module _ (g : Automaton) (outs square : List ℕ) (s : Squared g (passing Differ outs) square) where
  abbrev out : ℕ → ℕ
  out q = get_or outs q 0

  -- states that no trace tells apart read alike after each
  tells_other : (p q r : ℕ) (w : List ℕ) → Tells g (passing Differ outs) p r w
      → Tells g (passing Differ outs) p q w ⊎ Tells g (passing Differ outs) q r w
  tells_other p q r w t =
      ⊎_elim
      (λ (e : out (run g p w) ≡ out (run g q w)). inr (record {
        trace = t.trace;
        apart = subst (λ (x : ℕ). not (eqb x (out (run g r w))) ≡ true) e t.apart;
      }))
      (λ ne. inl (record { trace = t.trace; apart = ap not (ne_eqb (out (run g p w)) (out (run g q w)) ne) }))
      (same_or_not (out (run g p w)) (out (run g q w)))

  tells_back : (p q : ℕ) (w : List ℕ) → Tells g (passing Differ outs) p q w → Tells g (passing Differ outs) q p w
  tells_back p q w t = record {
    trace = t.trace;
    apart = ap not (ne_eqb (out (run g q w)) (out (run g p w))
        (λ e. eqb-false (out (run g p w)) (out (run g q w)) (not-true (eqb (out (run g p w)) (out (run g q w))) t.apart) (sym e)));
  }

  -- an entry is at most as great as another if every trace noted there counts here
  back_least : (p q : ℕ) → p < g.states → q < g.states → entry square p q ≤ entry square q p
  back_least p q lp lq =
      ⊎_elim
      (λ l. (let w = (s.noted q p lq lp).found l in
      let n = noted_least (s.noted p q lp lq) w.word (tells_back q p w.word w.has) in omega (arith, n, w.long)))
      (λ l. (let m = (s.noted p q lp lq).most in omega (arith, l, m)))
      (lt_or_le (entry square q p) never)

  pub differ_ultrametric : Ultrametric g.states square
  differ_ultrametric = record {
    symmetric = λ p q lp lq. le_antisymm (back_least p q lp lq) (back_least q p lq lp);
    through = λ p q r lp lq lr.
        ⊎_elim
        (λ l.
        let w = (s.noted p r lp lr).found l in
        let long = w.long in
        ⊎_elim (λ t. (let n = noted_least (s.noted p q lp lq) w.word t in omega (arith, n, long)))
        (λ t. (let n = noted_least (s.noted q r lq lr) w.word t in omega (arith, n, long)))
        (tells_other p q r w.word w.has))
        (λ l. (let m = (s.noted p q lp lq).most in omega (arith, l, m)))
        (lt_or_le (entry square p r) never);
  }

pub suited : (g : Automaton) (test : Test) (outs square : List ℕ) → Squared g (passing test outs) square → Suited test g.states square
suited g test outs square s e = differ_ultrametric g outs square (subst (λ (t : Test). Squared g (passing t outs) square) e s)

-- ---- the looks

-- the fault steps looked at
abbrev pub Looked : Test → ℕ → ℕ → FaultStep → Type 0
Looked test rank k = Upto (λ a. OfFirst rank k a (second_from test rank a)) (firsts test rank k)

module _ (g : Automaton) (square : List ℕ) (p : ℕ) (closed : Closed g) (lp : p < g.states) where
  abbrev k : ℕ
  k = g.symbols

  abbrev cost : FaultStep → ℕ
  cost = cost_of g square p

  -- a look that costs no more
  abbrev AsCheap : (FaultStep → Type 0) → FaultStep → Type 0
  AsCheap Some s = (t : FaultStep) × Some t × (cost t ≤ cost s)

  itself : (rank : ℕ) {a b : ℕ} (test : Test) → a < firsts test rank k → second_from test rank a ≤ b → b < seconds rank k
      → (s : FaultStep) → s ≡ step_of rank a b → AsCheap (Looked test rank k) s
  itself rank {a} {b} test la f lb s e = (s, (a, la, (b, lb, (f, e))), le_refl (cost s))

  plus_mono : (l : ℕ) {e f : ℕ} → e ≤ f → plus l e ≤ plus l f
  plus_mono l h = omega (arith, h)

  -- corruption of symbol 0 by one of the two symbols
  by_zero : Ultrametric g.states square → (a b : ℕ) → a < k → b < k → (s : FaultStep) → s ≡ step_of 1 a b → AsCheap (Looked Differ 1 k) s
  unfolding run
  by_zero u a b la lb s e =
      let x0 = closed.next_in p 0 lp (omega (arith, la)) in
      let xa = closed.next_in p a lp la in
      let xb = closed.next_in p b lp lb in
      let far = u.through (g.next p a) (g.next p 0) (g.next p b) xa x0 xb in
      let turned = u.symmetric (g.next p a) (g.next p 0) xa x0 in
      ⊎_elim
      (λ (l : entry square (g.next p 0) (g.next p a) ≤ entry square (g.next p a) (g.next p b)).
      (step_of 1 0 a, (0, omega (arith, la), (a, la, (zero-le, refl))), rw e (plus_mono 1 l)))
      (λ (l : entry square (g.next p 0) (g.next p b) ≤ entry square (g.next p a) (g.next p b)).
      (step_of 1 0 b, (0, omega (arith, la), (b, lb, (zero-le, refl))), rw e (plus_mono 1 l)))
      (either (entry square (g.next p 0) (g.next p a)) (entry square (g.next p 0) (g.next p b)) (entry square (g.next p a) (g.next p b))
      (rw turned at far))
    where
      either : (x y z : ℕ) → min x y ≤ z → (x ≤ z) ⊎ (y ≤ z)
      either x y z h = ⊎_elim (λ (l : z < x). inr (omega (arith, h, l))) (λ l. inl l) (lt_or_le z x)

  -- a swap of falling symbols costs what that of the same rising does
  by_rising : Ultrametric g.states square → (a b : ℕ) → a < k → b < k → (s : FaultStep) → s ≡ step_of 3 a b → AsCheap (Looked Differ 3 k) s
  unfolding run
  by_rising u a b la lb s e =
      ⊎_elim
      (λ (l : b < a).
      let x = closed.next_in (g.next p a) b (closed.next_in p a lp la) lb in
      let y = closed.next_in (g.next p b) a (closed.next_in p b lp lb) la in
      let turned = u.symmetric (g.next (g.next p b) a) (g.next (g.next p a) b) y x in
      (step_of 3 b a, (b, lb, (a, la, (omega (arith, l), refl))), rw e (plus_mono 2 (omega (arith, turned)))))
      (λ (l : a ≤ b). itself 3 Differ la l lb s e)
      (lt_or_le b a)

  pub enough : (test : Test) (rank : ℕ) → Suited test g.states square → (s : FaultStep) → OfKind rank k s → AsCheap (Looked test rank k) s
  enough Differ zero suit s h = itself zero Differ h.1 zero-le h.2.1 s h.2.2.1
  enough Differ (suc zero) suit s h = by_zero (suit refl) h.0 h.2.0 h.1 h.2.1 s h.2.2.1
  enough Differ (suc (suc zero)) suit s h = itself (suc (suc zero)) Differ h.1 zero-le h.2.1 s h.2.2.1
  enough Differ (suc (suc (suc zero))) suit s h = by_rising (suit refl) h.0 h.2.0 h.1 h.2.1 s h.2.2.1
  enough Differ (suc (suc (suc (suc c)))) suit s h = absurd (omega (arith, h.2.1))
  enough (Misread v) rank suit s h = itself rank (Misread v) h.1 zero-le h.2.1 s h.2.2.1

-- what is looked at is of the kind
pub looked_in : (test : Test) (rank k : ℕ) → firsts test rank k ≤ k
looked_in Differ zero k = le_refl k
looked_in Differ (suc zero) k = omega arith
looked_in Differ (suc (suc c)) k = le_refl k
looked_in (Misread v) rank k = le_refl k

pub looked_kind : (test : Test) (rank k : ℕ) (s : FaultStep) → Looked test rank k s → OfKind rank k s
looked_kind test rank k s h = (let l = looked_in test rank k in (h.0, omega (arith, l, h.1), (h.2.0, h.2.1, (zero-le, h.2.2.1))))

-- the first of the second symbols is one, or the end
pub second_most : (test : Test) (rank : ℕ) {k a : ℕ} → a < k → second_from test rank a ≤ seconds rank k
second_most Differ zero l = zero-le
second_most Differ (suc zero) l = zero-le
second_most Differ (suc (suc zero)) l = zero-le
second_most Differ (suc (suc (suc zero))) l = omega (arith, l)
second_most Differ (suc (suc (suc (suc c)))) l = zero-le
second_most (Misread v) rank l = zero-le

-- ---- the steps of a set, rank by rank

pub held_set : (set k : ℕ) (s : FaultStep) → Upto (OfHeld set k) kinds s → OfSet set k s
held_set set k s h =
    held_steps set k {F = set} s
    (record {
      place = h.0;
      first = h.2.1.0;
      second = h.2.1.2.0;
      place_in = h.1;
      held = h.2.0;
      first_in = h.2.1.1;
      second_in = h.2.1.2.1;
      is = h.2.1.2.2.1;
    })
    h.2.0

pub set_held : (set k : ℕ) (s : FaultStep) → OfSet set k s → Upto (OfHeld set k) kinds s
set_held set k s i =
    let h = steps_held set k s i in
    (h.place, h.place_in, (h.held, (h.first, h.first_in, (h.second, h.second_in, (zero-le, h.is)))))

-- ---- how many symbols a step covers

-- all steps of a rank cover as many
pub covers_same : (rank a b : ℕ) → length (step_of rank a b).sent ≡ length (step_of rank 0 0).sent
covers_same zero a b = refl
covers_same (suc zero) a b = refl
covers_same (suc (suc zero)) a b = refl
covers_same (suc (suc (suc zero))) a b = refl
covers_same (suc (suc (suc (suc c)))) a b = refl

covers_short : (rank : ℕ) → length (step_of rank 0 0).sent ≤ 2
covers_short zero = omega arith
covers_short (suc zero) = omega arith
covers_short (suc (suc zero)) = omega arith
covers_short (suc (suc (suc zero))) = le_refl 2
covers_short (suc (suc (suc (suc c)))) = omega arith

-- a step costs at least the symbols that it covers
pub covers_least : (g : Automaton) (square : List ℕ) (p rank k : ℕ) {bound : ℕ} → bound < length (step_of rank 0 0).sent
    → (s : FaultStep) → OfKind rank k s → bound < cost_of g square p s
covers_least g square p rank k {bound} l s h =
    let e = covers_same rank h.0 h.2.0 in
    let z = ap (λ (t : FaultStep). length t.sent) h.2.2.1 in
    above (length s.sent) (entry square (run g p s.sent) (run g p s.received)) (omega (arith, e, z, l)) (omega (arith, l, covers_short rank))
  where
    above : (c e : ℕ) → bound < c → bound < never → bound < plus c e
    above c e m low = omega (arith, m, low)
