-- Reading a trace up to its first verdict, symbol by symbol; what the rest of the trace can still change.
use mathlib.Core.Path.{◌≡◌, refl, sym, ap, ◌∙◌}
use mathlib.Core.Bool.{Bool, true, false, cond}
use mathlib.Core.List.{List, [], ◌∷◌, ◌++◌, append-nil}
use Prim.Native.Nat.{ℕ, suc, ◌+◌, ◌≤◌, ◌<◌, zero-le, suc-le-suc}
use native.Mathlib.Numerals.{add-one}
use native.Mathlib.Omega.{arith}
use lib.ListN.{length, get_or, drop, drop_of_length-le}
use lib.Seq.{drop-cons}
use borrow.Author.Tests.{eq-eqb, ne_eqb, eqb-false}
use Rattle.theory.specs.Extent.{Extent, number, missing}
use Rattle.theory.specs.Automaton.{Trace, run}
use Rattle.theory.specs.Monitor.{Monitor, WellFormed, marked, reading}
use Rattle.theory.specs.Count.{later, count_from}
use Rattle.theory.proofs.Count.{later_none, later_later, count_now, verdict_lasts, reads_alike}
use Rattle.readings.specs.Following.{until_verdict, Followed}
use Rattle.readings.specs.declared.answers.Progress.{Progress}

module _ (m : Monitor) where
  until_verdict_lem : (q : ℕ) (w : List ℕ) → marked m 0 q ≡ false → until_verdict m q w ≡ []
  unfolding until_verdict
  until_verdict_lem q [] e = refl
  until_verdict_lem q (a ∷ w) e = rw e

  until_more : (q a : ℕ) (w : List ℕ) → marked m 0 q ≡ true → until_verdict m q (a ∷ w) ≡ a ∷ until_verdict m (m.automaton.next q a) w
  unfolding until_verdict
  until_more q a w e = rw e

-- from state q and symbol i on it goes as from the beginning
pub record Onward (m : Monitor) (from : ℕ) (w : List ℕ) (q i : ℕ) : Type 0 where
  pub inside : q < m.automaton.states
  pub state : run m.automaton from (until_verdict m from w) ≡ run m.automaton q (until_verdict m q (drop i w))
  pub read : length (until_verdict m from w) ≡ i + length (until_verdict m q (drop i w))

module _ {m : Monitor} {from : ℕ} {w : List ℕ} {q i : ℕ} (o : Onward m from w q i) where
  pub onward_turn : {r : ℕ} → i < length w → m.verdict q ≡ 0 → r ≡ m.automaton.next q (get_or w i 0) → r < m.automaton.states → Onward m from w r (i + 1)
  unfolding run
  onward_turn {r} l z e lr =
      let here : until_verdict m q (drop i w) ≡ get_or w i 0 ∷ until_verdict m r (drop (i + 1) w) =
      ap (until_verdict m q) (drop-cons w i 0 l) ∙ until_more m q (get_or w i 0) (drop (suc i) w) (eq-eqb (m.verdict q) 0 z) ∙ rw (← e, add-one i) in
      record {
        inside = lr;
        state = o.state ∙ ap (run m.automaton q) here ∙ ap (λ (x : ℕ). run m.automaton x (until_verdict m r (drop (i + 1) w))) (sym e);
        read = (let s = ap length here in let t = o.read in omega (arith, s, t));
      }

  left : until_verdict m q (drop i w) ≡ [] → Followed m from w (record { state = q; read = i })
  unfolding run
  left e = record {
    arrives = sym (o.state ∙ ap (run m.automaton q) e);
    counts = (let s = ap length e in let t = o.read in omega (arith, s, t));
    inside = o.inside;
  }

  pub onward_stops : (m.verdict q ≡ 0 → ⊥) → Followed m from w (record { state = q; read = i })
  onward_stops n = left (until_verdict_lem m q (drop i w) (ne_eqb (m.verdict q) 0 n))

  pub onward_ends : i ≡ length w → Followed m from w (record { state = q; read = length w })
  unfolding until_verdict
  onward_ends e = rw (← e) (left (ap (until_verdict m q) (drop_of_length-le w (omega (arith, e)))))

-- no more is read than there is
module _ (m : Monitor) where
  until_most : (q : ℕ) (w : List ℕ) → length (until_verdict m q w) ≤ length w
  unfolding until_verdict
  until_most q [] = zero-le
  until_most q (a ∷ w) = go (marked m 0 q) (until_most (m.automaton.next q a) w)
    where
      go : (b : Bool) → length (until_verdict m (m.automaton.next q a) w) ≤ length w
          → length (cond b (a ∷ until_verdict m (m.automaton.next q a) w) []) ≤ suc (length w)
      go true l = suc-le-suc l
      go false l = zero-le

  pub followed_most : {q : ℕ} {w : List ℕ} {to : Progress} → Followed m q w to → to.read ≤ length w
  followed_most {q} {w} f = omega (arith, until_most q w, f.counts)

-- ---- what is left to count

module _ (m : Monitor) where
  count_until : (q : ℕ) (w v : List ℕ)
      → count_from m q (w ++ v) ≡ later (length (until_verdict m q w)) (count_from m (run m.automaton q (until_verdict m q w)) v)
  unfolding count_from until_verdict run
  count_until q [] v = sym (later_none (count_from m q v))
  count_until q (a ∷ w) v = go (marked m 0 q) refl (count_until (m.automaton.next q a) w v)
    where
      p : ℕ
      p = m.automaton.next q a

      us : List ℕ
      us = until_verdict m p w

      go : (b : Bool) → marked m 0 q ≡ b → count_from m p (w ++ v) ≡ later (length us) (count_from m (run m.automaton p us) v)
          → cond b (later 1 (count_from m p (w ++ v))) (number 0)
          ≡ later (length (cond b (a ∷ us) [])) (count_from m (run m.automaton q (cond b (a ∷ us) [])) v)
      go true e rest =
          let end = count_from m (run m.automaton p us) v in
          ap (later 1) rest ∙ later_later 1 (length us) end ∙ ap (λ (i : ℕ). later i end) (let z : 1 + length us ≡ suc (length us) = omega arith in z)
      go false e rest = sym (later_none (count_from m q v) ∙ count_now m q v e)

  -- what was read counts, and what follows it counts from there on
  pub followed_count : {q : ℕ} {w : List ℕ} {to : Progress} (v : List ℕ) → Followed m q w to
      → count_from m q (w ++ v) ≡ later to.read (count_from m to.state v)
  followed_count {q} {w} v f = count_until q w v ∙ rw (← f.counts, ← f.arrives)

  -- the end of a trace
  pub count_end : (q read : ℕ) → cond (marked m 0 q) missing (number read) ≡ later read (count_from m q [])
  unfolding count_from
  count_end q read = go (marked m 0 q)
    where
      go : (b : Bool) → cond b missing (number read) ≡ later read (cond b missing (number 0))
      go true = refl
      go false = ap number (omega arith)

  pub followed_whole : {q : ℕ} {w : List ℕ} {to : Progress} {c : Extent} → Followed m q w to → c ≡ cond (marked m 0 to.state) missing (number to.read)
      → c ≡ count_from m q w
  followed_whole {q} {w} {to} f e =
      e ∙ count_end to.state to.read ∙ sym (followed_count [] f) ∙ ap (count_from m q) (append-nil w)

-- what was read reads as the whole trace does
module _ {limit : ℕ} {m : Monitor} (h : WellFormed limit m) (d : ℕ) where
  until_reads : (q : ℕ) (w : List ℕ) → q < m.automaton.states → Trace m.automaton w
      → reading m d (run m.automaton q (until_verdict m q w)) ≡ reading m d (run m.automaton q w)
  unfolding until_verdict run Trace
  until_reads q [] l t = refl
  until_reads q (a ∷ w) l t = go (marked m 0 q) refl (until_reads (m.automaton.next q a) w (h.closed.next_in q a l t.0) t.1)
    where
      p : ℕ
      p = m.automaton.next q a

      go : (b : Bool) → marked m 0 q ≡ b → reading m d (run m.automaton p (until_verdict m p w)) ≡ reading m d (run m.automaton p w)
          → reading m d (run m.automaton q (cond b (a ∷ until_verdict m p w) [])) ≡ reading m d (run m.automaton p w)
      go true e rest = rest
      go false e rest =
          let n = eqb-false (m.verdict q) 0 e in
          let some : 0 < m.verdict q = omega (arith, n) in
          sym (reads_alike m d (run m.automaton q (a ∷ w)) q some (verdict_lasts h q (a ∷ w) l t some))

  pub followed_reads : {q : ℕ} {w : List ℕ} {to : Progress} {r : ℕ} → Followed m q w to → q < m.automaton.states → Trace m.automaton w
      → r ≡ reading m d to.state → r ≡ reading m d (run m.automaton q w)
  followed_reads {q} {w} f l t e = e ∙ ap (reading m d) f.arrives ∙ until_reads q w l t
