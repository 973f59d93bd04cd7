-- What a number reads; which symbols are a trace.
use mathlib.Core.Path.{◌≡◌, refl, sym, ap, ◌∙◌}
use mathlib.Core.Bool.{Bool, true, false, cond, ◌||◌}
use mathlib.Core.List.{List, [], ◌∷◌, ◌++◌}
use Prim.Native.Nat.{ℕ, zero, suc, ◌<◌, zero-le, suc-le-suc}
use native.Mathlib.Nat.{le_refl}
use native.Mathlib.Omega.{arith}
use lib.Dec.{eqb}
use lib.ListN.{length, get_or, drop}
use lib.Seq.{take-length}
use borrow.Author.Tests.{lt-leb}
use Rattle.theory.specs.Answer.{Answer, answered, asks}
use Rattle.theory.specs.Automaton.{Automaton, Trace}
use Rattle.theory.specs.Monitor.{Monitor, class, reading}
use Rattle.theory.proofs.Below.{clash, not_clash, first_is}
use Rattle.theory.proofs.Answer.{asks_yes, asks_values}
use Rattle.theory.proofs.Values.{filled, values_front}
use Rattle.basics.specs.Refusals.{refusal}
use Rattle.basics.specs.declared.refusal.Refusal.{Refusal}
use Rattle.monitor.specs.Questions.{not_below, first_not_below, question10}
use Rattle.monitor.proofs.Body.{all_below}
use Rattle.readings.specs.Domains.{domain_of}
use Rattle.readings.specs.declared.reading.Reading.{Reading}

-- no reading reads 0
pub reads_none : (m : Monitor) (d q : ℕ) → (eqb d 3 || eqb d 6) ≡ false → 0 ≡ reading m d q
unfolding reading
reads_none m d q e = go (eqb d 3) (eqb d 6) e
  where
    go : (three six : Bool) → (three || six) ≡ false → 0 ≡ cond three (m.verdict q) (cond six (class m q) 0)
    go true six e = absurd (clash refl e)
    go false true e = absurd (clash refl e)
    go false false e = refl

-- a reading that a number names: question 10 is answered yes of the number
pub named : (r : Reading) (d : ℕ) → answered (domain_of r) ≡ asks (question10 d ∷ []) d → ((eqb d 3 || eqb d 6) ≡ true) × (d ≡ domain_of r)
named r d e = (let y = asks_yes (question10 d) [] d (sym e) in (y.0, asks_values [] d y.1))

-- and where it names none, no
pub unnamed : (x : Refusal) (d : ℕ) → refusal x ≡ asks (question10 d ∷ []) d → (eqb d 3 || eqb d 6) ≡ false
unnamed x d e = not_clash (λ y. (let z : ◌≡◌ {A = Answer ℕ} (refusal x) (answered d) = e ∙ rw y in cc))

-- the marks of a table, as values
pub lent_values : (l area : List ℕ) {n : ℕ} → length l ≡ n → l ++ drop (length l) area ≡ filled (λ q. get_or l q 0) area n
lent_values l area e = rw (← e) (ap (λ (front : List ℕ). front ++ drop (length l) area) (sym (values_front l (length l) (le_refl (length l)) ∙ take-length l)))

-- a state that is equal to another reads the same
pub reads_at : (m : Monitor) (d : ℕ) {p q r : ℕ} → p ≡ q → r ≡ reading m d p → r ≡ reading m d q
reads_at m d e h = h ∙ ap (reading m d) e

-- ---- question 12 is answered yes of exactly the traces

module _ (g : Automaton) where
  below_trace : (w : List ℕ) → ((i : ℕ) → i < length w → get_or w i 0 < g.symbols) → Trace g w
  unfolding Trace
  below_trace [] all = tt
  below_trace (a ∷ w) all = (all 0 (omega arith), below_trace w (λ i l. all (suc i) (suc-le-suc l)))

  trace_below : (w : List ℕ) → Trace g w → (i : ℕ) → i < length w → get_or w i 0 < g.symbols
  unfolding Trace
  trace_below [] t i l = absurd (omega arith)
  trace_below (a ∷ w) t zero l = t.0
  trace_below (a ∷ w) t (suc i) l = trace_below w t.1 i (omega arith)

  pub passed_trace : (w : List ℕ) → first_not_below g.symbols w ≡ length w → Trace g w
  passed_trace w e = below_trace w (all_below g.symbols w e)

  pub trace_passed : (w : List ℕ) → Trace g w → first_not_below g.symbols w ≡ length w
  trace_passed w t =
      first_is (not_below g.symbols w) (length w) 0 (length w) zero-le (omega arith) (λ j _ l. lt-leb g.symbols (get_or w j 0) (trace_below w t j l))
      (λ l. absurd (omega arith))
