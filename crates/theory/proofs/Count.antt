-- When a verdict falls: `count_from` is the length of the shortest beginning of the trace after which the verdict is true or false.
use mathlib.Core.Path.{◌≡◌, refl, sym, ap, ◌∙◌, subst}
use mathlib.Core.Bool.{Bool, true, false, cond}
use mathlib.Core.List.{List, [], ◌∷◌, ◌++◌, append-nil}
use mathlib.Core.Logic.{◌↔◌}
use Prim.Native.Nat.{ℕ, zero, suc, ◌+◌, ◌≤◌, ◌<◌, zero-le}
use native.Mathlib.Nat.{zero-add}
use native.Mathlib.Omega.{arith}
use lib.ListN.{length, take, length-append}
use lib.Seq.{take_at}
use borrow.Author.Tests.{eqb-true, eqb-false, eq-eqb}
use Rattle.theory.specs.Extent.{Extent, number, missing, ShortestLength}
use Rattle.theory.specs.Automaton.{Trace, run}
use Rattle.theory.specs.Monitor.{Monitor, WellFormed, marked, class, by_reading, reading}
use Rattle.theory.specs.Count.{Decided, later, count_from}
use Rattle.theory.proofs.Reach.{run_in, lasts, run_append, trace_left, trace_right}

-- ---- so many more

pub later_none : (e : Extent) → later 0 e ≡ e
later_none missing = refl
later_none (number j) = ap number (zero-add j)

pub later_later : (i j : ℕ) (e : Extent) → later i (later j e) ≡ later (i + j) e
later_later i j missing = refl
later_later i j (number l) = ap number (omega arith)

-- ---- the shortest beginning

module _ (m : Monitor) where
  -- after no symbol
  decided_here : {q : ℕ} (w : List ℕ) → marked m 0 q ≡ false → Decided m q w []
  unfolding run
  decided_here {q} w e = record { rest = w; begins = refl; decides = (let n = eqb-false (m.verdict q) 0 e in omega (arith, n)) }

  -- after one symbol more
  decided_more : {q a : ℕ} {w v : List ℕ} → Decided m (m.automaton.next q a) w v → Decided m q (a ∷ w) (a ∷ v)
  unfolding run
  decided_more {a = a} d = record { rest = d.rest; begins = ap (λ (l : List ℕ). a ∷ l) d.begins; decides = d.decides }

  open_not_decided : {q : ℕ} {w : List ℕ} → marked m 0 q ≡ true → Decided m q w [] → ⊥
  unfolding run
  open_not_decided {q} e d = (let z = eqb-true (m.verdict q) 0 e in omega (arith, z, d.decides))

  -- where q has no verdict, the first symbol is read before one falls
  decided_less : {q a : ℕ} {w v : List ℕ} → marked m 0 q ≡ true → Decided m q (a ∷ w) v
      → (u : List ℕ) × (length v ≡ suc (length u)) × Decided m (m.automaton.next q a) w u
  unfolding run
  decided_less {v = []} e d = absurd (open_not_decided e d)
  decided_less {q} {a} {w} {v = b ∷ u} e d =
      let same : b ≡ a = cc d.begins in (
        u,
        refl,
        record {
          rest = d.rest;
          begins = cc d.begins;
          decides = subst (λ (x : ℕ). 0 < m.verdict (run m.automaton (m.automaton.next q x) u)) same d.decides;
        },
      )

  decided_none : {q : ℕ} {v : List ℕ} → marked m 0 q ≡ true → Decided m q [] v → ⊥
  decided_none {v = []} e d = open_not_decided e d
  decided_none {v = b ∷ u} e d = (let z = ap length d.begins in omega (arith, z))

  pub count_exact : (q : ℕ) (w : List ℕ) → ShortestLength (Decided m q w) (count_from m q w)
  unfolding count_from
  count_exact q [] = go (marked m 0 q) refl
    where
      go : (b : Bool) → marked m 0 q ≡ b → ShortestLength (Decided m q []) (cond b missing (number 0))
      go true e = λ v d. decided_none e d
      go false e = record { word = []; has = decided_here [] e; long = refl; least = λ v d. zero-le }
  count_exact q (a ∷ w) = go (marked m 0 q) refl (count_from m (m.automaton.next q a) w) (count_exact (m.automaton.next q a) w)
    where
      go : (b : Bool) → marked m 0 q ≡ b → (e : Extent) → ShortestLength (Decided m (m.automaton.next q a) w) e
          → ShortestLength (Decided m q (a ∷ w)) (cond b (later 1 e) (number 0))
      go true e missing none = λ v d. (let r = decided_less e d in none r.0 r.2)
      go true e (number j) s = record {
        word = a ∷ s.word;
        has = decided_more s.has;
        long = (let l = s.long in omega (arith, l));
        least = λ v d. (let r = decided_less e d in let l = s.least r.0 r.2 in let n = r.1 in omega (arith, l, n));
      }
      go false e f s = record { word = []; has = decided_here (a ∷ w) e; long = refl; least = λ v d. zero-le }

  -- a state with a verdict has the count 0, whatever follows
  pub count_now : (q : ℕ) (w : List ℕ) → marked m 0 q ≡ false → count_from m q w ≡ number 0
  unfolding count_from
  count_now q [] e = rw e
  count_now q (a ∷ w) e = rw e

  -- two states with one verdict that is true or false read alike
  pub reads_alike : (d p q : ℕ) → 0 < m.verdict q → m.verdict p ≡ m.verdict q → reading m d p ≡ reading m d q
  unfolding reading class
  reads_alike d p q some e = go (m.verdict q) refl some
    where
      go : (v : ℕ) → m.verdict q ≡ v → 0 < v → by_reading d (m.verdict p) (class m p) ≡ by_reading d (m.verdict q) (class m q)
      go zero f z = absurd (omega arith)
      go (suc zero) f z = rw (e, f)
      go (suc (suc v)) f z = rw (e, f)

-- ---- a verdict that fell is kept

module _ {limit : ℕ} {m : Monitor} (h : WellFormed limit m) where
  -- every step keeps the mark v
  pub verdict_stays : (v q a : ℕ) → 0 < v → q < m.automaton.states → a < m.automaton.symbols → marked m v q ≡ true
      → marked m v (m.automaton.next q a) ≡ true
  verdict_stays v q a p l i e =
      let is = eqb-true (m.verdict q) v e in
      eq-eqb (m.verdict (m.automaton.next q a)) v (h.verdict_kept q a l i (omega (arith, p, is)) ∙ is)

  pub verdict_lasts : (q : ℕ) (w : List ℕ) → q < m.automaton.states → Trace m.automaton w → 0 < m.verdict q
      → m.verdict (run m.automaton q w) ≡ m.verdict q
  verdict_lasts q w l t p =
      let v = m.verdict q in
      eqb-true (m.verdict (run m.automaton q w)) v
      (lasts (marked m v) h.closed (λ x a i j. verdict_stays v x a p i j) q w l t (eq-eqb v v refl))

  module _ (q : ℕ) (w : List ℕ) (l : q < m.automaton.states) (t : Trace m.automaton w) where
    -- the verdict after a beginning that decides is that after the whole trace
    decided_kept : {v : List ℕ} → Decided m q w v → m.verdict (run m.automaton q v) ≡ m.verdict (run m.automaton q w)
    decided_kept {v} d =
        let g = m.automaton in
        let whole : Trace g (v ++ d.rest) = rw d.begins t in
        sym (verdict_lasts (run g q v) d.rest (run_in h.closed q v l (trace_left g v d.rest whole)) (trace_right g v d.rest whole) d.decides)
        ∙ ap m.verdict (sym (run_append g q v d.rest) ∙ ap (run g q) d.begins)

    -- the count is never exactly if the verdict at the end is not yet
    pub never_exactly : (count_from m q w ≡ missing) ↔ (m.verdict (run m.automaton q w) ≡ 0)
    never_exactly = (forth (m.verdict (run m.automaton q w)) refl, back (count_from m q w) (count_exact m q w))
      where
        forth : (v : ℕ) → m.verdict (run m.automaton q w) ≡ v → count_from m q w ≡ missing → v ≡ 0
        forth zero e never = refl
        forth (suc v) e never =
            let whole : Decided m q w w = record { rest = []; begins = append-nil w; decides = omega (arith, e) } in
            absurd (subst (ShortestLength (Decided m q w)) never (count_exact m q w) w whole)

        back : (e : Extent) → ShortestLength (Decided m q w) e → m.verdict (run m.automaton q w) ≡ 0 → e ≡ missing
        back missing s z = refl
        back (number j) s z = absurd (let k = decided_kept s.has in let p = s.has.decides in omega (arith, k, p, z))

    -- a count is at most the trace's length, and the verdict after so many symbols is that at the end
    pub count_kept : (i : ℕ) → count_from m q w ≡ number i
        → (i ≤ length w) × (m.verdict (run m.automaton q (take i w)) ≡ m.verdict (run m.automaton q w))
    count_kept i e =
        let s = subst (ShortestLength (Decided m q w)) e (count_exact m q w) in
        let d = s.has in
        let size = ap length d.begins in
        let long = s.long in
        let front : take i w ≡ s.word = ap (take i) (sym d.begins) ∙ take_at s.word d.rest i long in
        (omega (arith, simp length-append at size, long), ap (λ (v : List ℕ). m.verdict (run m.automaton q v)) front ∙ decided_kept d)
