-- Which bodies are accepted, proved of every body.
use mathlib.Core.Path.{◌≡◌, refl, sym, ap, ◌∙◌, subst}
use mathlib.Core.Bool.{true, not}
use mathlib.Core.List.{List, [], ◌∷◌, ◌++◌}
use Prim.Native.Nat.{ℕ, zero, suc, ◌+◌, ◌*◌, ◌/◌, ◌%◌, ◌≤◌, ◌<◌, zero-le}
use native.Mathlib.Nat.{zero-mul, suc-mul, mod-lt, div-add-mod', div-lt_iff_lt-mul}
use native.Mathlib.Omega.{arith}
use lib.Arith.{digits_lt}
use lib.Dec.{eqb}
use lib.ListN.{length, get_or, take, drop, length-append, length-drop, take-append-drop}
use lib.Seq.{take_all, take_at, drop_at, drop-drop, take-add, get_or-drop, get_or-append-add}
use borrow.Author.Tests.{eqb-true, eqb-false, eq-eqb, le-leb, lt-ltb, not-true}
use Rattle.theory.specs.Below.{values}
use Rattle.theory.specs.Lists.{each}
use Rattle.theory.specs.Answer.{answered}
use Rattle.theory.specs.Monitor.{Monitor, WellFormed, symbol_limit}
use Rattle.theory.proofs.Below.{not_clash, and_left, and_right, first_is, first_none}
use Rattle.theory.proofs.Lists.{each_at}
use Rattle.theory.proofs.Answer.{all_answered}
use Rattle.theory.proofs.Values.{length_values, values_same, values_front, get_or_values, get_or_filled}
use Rattle.monitor.specs.Format.{states_of, symbols_of, start_of, drawn_marks, nexts, drawn_of}
use Rattle.monitor.specs.Questions.{first_not_below, revokes, first_revoking, head_questions, no_values, judge_answer}
use Rattle.monitor.proofs.Head.{Head, passed_head}
use Rattle.monitor.proofs.Body.{marks_length, nexts_length, below_all}
use Rattle.monitor.proofs.Revoking.{verdict_stays}
use Rattle.monitor.proofs.Accepted.{accepted_head, accepted_drawn}
use Rattle.demands.specs.Tables.{table_bytes, Encodes, SameTable, Kept, Tables}

-- ---- rows of k numbers, one behind the other

module _ (k : ℕ) where
  length_rows : (f : ℕ → ℕ → ℕ) (n : ℕ) → length (each n (λ q. values k (f q))) ≡ n * k
  unfolding each
  length_rows f zero = sym (zero-mul k)
  length_rows f (suc n) =
      length-append (each n (λ q. values k (f q))) (values k (f n)) ∙ omega (arith, length_rows f n, length_values k (f n), suc-mul n k)

  -- number a of row q
  row_at : (f : ℕ → ℕ → ℕ) (n q a : ℕ) → q < n → a < k → get_or (each n (λ q. values k (f q))) (q * k + a) 0 ≡ f q a
  row_at f n q a l h =
      let r = each_at q n (λ q. values k (f q)) l in
      let front = each q (λ q. values k (f q)) in
      ap (λ (xs : List ℕ). get_or xs (q * k + a) 0) r.1
      ∙ ap (λ (i : ℕ). get_or (front ++ (values k (f q) ++ r.0)) (i + a) 0) (sym (length_rows f q))
      ∙ get_or-append-add front (values k (f q) ++ r.0) a 0
      ∙ get_or_filled (f q) r.0 k a h

  -- the rows of a list are the list
  rows_front : (l : List ℕ) (n : ℕ) → n * k ≤ length l → each n (λ q. values k (λ a. get_or l (q * k + a) 0)) ≡ take (n * k) l
  unfolding each
  rows_front l zero h = rw (zero-mul k)
  rows_front l (suc n) h =
      let e = suc-mul n k in
      let rest = drop (n * k) l in
      let row : values k (λ a. get_or l (n * k + a) 0) ≡ take k rest =
      values_same k (λ a. get_or l (n * k + a) 0) (λ a. get_or rest a 0) (λ a _. sym (get_or-drop (n * k) l a 0))
      ∙ values_front rest k (simp length-drop (omega (arith, h, e))) in
      rw (e, rows_front l n (omega (arith, h, e)), row) (sym (take-add (n * k) k l))

-- ---- question 8

-- a next state that the test finds belongs to a state marked true or false, and is marked otherwise
pub revoking : (vs ts : List ℕ) (k i : ℕ) → revokes vs ts k i ≡ true → (0 < get_or vs (i / k) 0) × (get_or vs (get_or ts i 0) 0 ≡ get_or vs (i / k) 0 → ⊥)
revoking vs ts k i e =
    let v = get_or vs (i / k) 0 in
    let u = get_or vs (get_or ts i 0) 0 in
    let marked = eqb-false v 0 (not-true (eqb v 0) (and_left (not (eqb v 0)) (not (eqb u v)) e)) in
    (omega (arith, marked), eqb-false u v (not-true (eqb u v) (and_right (not (eqb v 0)) (not (eqb u v)) e)))

module _ {limit : ℕ} {b : List ℕ} (h : Head limit b) where
  abbrev vs : List ℕ
  vs = drawn_marks b

  abbrev ts : List ℕ
  ts = nexts b

  abbrev n : ℕ
  n = states_of b

  abbrev k : ℕ
  k = symbols_of b

  -- next state i is that of state i / k under message i % k
  pub divided : (i : ℕ) → i < length ts → (i / k < n) × (i % k < k) × (i / k * k + i % k ≡ i)
  divided i l = ((div-lt_iff_lt-mul h.symbols_least).1 (omega (arith, nexts_length h, l)), mod-lt i h.symbols_least, div-add-mod' i k)

  unrevoked_kept : first_revoking vs ts k ≡ length ts → Kept (drawn_of b)
  unrevoked_kept e q a l g v =
      verdict_stays vs ts q k (omega arith) (omega arith)
      (first_none (revokes vs ts k) 0 (length ts) (q * k + a) (omega arith) (omega arith) (omega (arith, nexts_length h, digits_lt l g))) (omega arith)

  kept_unrevoked : Kept (drawn_of b) → first_revoking vs ts k ≡ length ts
  kept_unrevoked kept = first_is (revokes vs ts k) (length ts) 0 (length ts) zero-le (omega arith) (λ i _ l. not_clash (fails i l)) (λ l. absurd (omega arith))
    where
      fails : (i : ℕ) → i < length ts → revokes vs ts k i ≡ true → ⊥
      fails i l t =
          let d = divided i l in
          let r = revoking vs ts k i t in
          r.1 (subst (λ (j : ℕ). get_or vs (get_or ts j 0) 0 ≡ get_or vs (i / k) 0) d.2 (kept (i / k) (i % k) d.0 d.1 (omega (arith, r.0))))

-- ---- a body whose table is well formed is accepted

well_formed_accepted : (limit : ℕ) (b : List ℕ) → 3 ≤ length b → length b ≡ 3 + states_of b + states_of b * symbols_of b → WellFormed limit (drawn_of b)
    → judge_answer limit b ≡ answered no_values
unfolding judge_answer
well_formed_accepted limit b long exact w =
    let n = states_of b in
    let k = symbols_of b in
    rw (
      le-leb 3 (length b) long,
      le-leb 1 n h.states_least,
      le-leb n limit w.states_most,
      le-leb 1 k w.symbols_least,
      le-leb k symbol_limit w.symbols_most,
      eq-eqb (length b) (3 + n + n * k) exact,
      lt-ltb (start_of b) n w.start_in,
      eq-eqb (first_not_below 3 (drawn_marks b)) (length (drawn_marks b)) (below_all 3 (drawn_marks b) (λ i l. mark i (omega (arith, marks_length h)))),
      eq-eqb (first_not_below n (nexts b)) (length (nexts b)) (below_all n (nexts b) next),
      eq-eqb (first_revoking (drawn_marks b) (nexts b) k) (length (nexts b)) (kept_unrevoked h w.verdict_kept),
    )
  where
    h : Head limit b
    h = record {
      long = long;
      states_least = omega (arith, w.start_in);
      states_most = w.states_most;
      symbols_least = w.symbols_least;
      symbols_most = w.symbols_most;
      exact = exact;
      start_in = w.start_in;
    }

    mark : (q : ℕ) → q < states_of b → get_or (drawn_marks b) q 0 < 3
    mark q l = omega (arith, w.verdict_in q l)

    next : (i : ℕ) → i < length (nexts b) → get_or (nexts b) i 0 < states_of b
    next i l =
        let d = divided h i l in
        subst (λ (j : ℕ). get_or (nexts b) j 0 < states_of b) d.2 (w.closed.next_in (i / symbols_of b) (i % symbols_of b) d.0 d.1)

-- ---- a table as bytes, and read again

module _ (m : Monitor) where
  abbrev states : ℕ
  states = m.automaton.states

  abbrev symbols : ℕ
  symbols = m.automaton.symbols

  abbrev rows : List ℕ
  rows = each states (λ q. values symbols (m.automaton.next q))

  bytes_length : length (table_bytes m) ≡ 3 + states + states * symbols
  bytes_length = simp length-append (omega (arith, length_values states m.verdict, length_rows symbols m.automaton.next states))

  marks_read : drawn_marks (table_bytes m) ≡ values states m.verdict
  marks_read = take_at (values states m.verdict) rows states (length_values states m.verdict)

  nexts_read : nexts (table_bytes m) ≡ rows
  nexts_read = sym (drop-drop states 3 (table_bytes m)) ∙ drop_at (values states m.verdict) rows states (length_values states m.verdict)

  same_read : SameTable m (drawn_of (table_bytes m))
  same_read = record {
    states = refl;
    symbols = refl;
    start = refl;
    marks = λ q l. sym (ap (λ (xs : List ℕ). get_or xs q 0) marks_read ∙ get_or_values states m.verdict q l);
    nexts = λ q a l h. sym (ap (λ (xs : List ℕ). get_or xs (q * symbols + a) 0) nexts_read ∙ row_at symbols m.automaton.next states q a l h);
  }

  read_well_formed : {limit : ℕ} → WellFormed limit m → WellFormed limit (drawn_of (table_bytes m))
  read_well_formed w = record {
    states_most = w.states_most;
    symbols_least = w.symbols_least;
    symbols_most = w.symbols_most;
    start_in = w.start_in;
    closed = record { next_in = λ q a l h. rw (← (same_read.nexts q a l h)) (w.closed.next_in q a l h) };
    verdict_in = λ q l. rw (← (same_read.marks q l)) (w.verdict_in q l);
    verdict_kept = λ q a l h v.
        rw (← (same_read.nexts q a l h), ← (same_read.marks q l), ← (same_read.marks (m.automaton.next q a) (w.closed.next_in q a l h)))
        (w.verdict_kept q a l h (rw (← (same_read.marks q l)) at v));
  }

bytes_accepted : {limit : ℕ} {b : List ℕ} → Encodes limit b → judge_answer limit b ≡ answered no_values
bytes_accepted {limit} {b} e =
    let m = e.table in
    rw e.bytes (well_formed_accepted limit (table_bytes m) (omega (arith, bytes_length m)) (bytes_length m) (read_well_formed m e.well_formed))

-- a body is the bytes of the table that is read from it, where its length is exact
read_bytes : {limit : ℕ} {b : List ℕ} → Head limit b → b ≡ table_bytes (drawn_of b)
read_bytes {limit} {b} h =
    let n = states_of b in
    let k = symbols_of b in
    let vs = drawn_marks b in
    let ts = nexts b in
    let marks : values n (λ q. get_or vs q 0) ≡ vs =
    values_front vs n (omega (arith, marks_length h)) ∙ take_all n vs (omega (arith, marks_length h)) in
    let rows : each n (λ q. values k (λ a. get_or ts (q * k + a) 0)) ≡ ts =
    rows_front k ts n (omega (arith, nexts_length h)) ∙ take_all (n * k) ts (omega (arith, nexts_length h)) in
    let rest : drop 3 b ≡ vs ++ ts = sym (take-append-drop n (drop 3 b)) ∙ ap (λ (xs : List ℕ). vs ++ xs) (drop-drop n 3 b) in
    front b h.long ∙ ap (λ (xs : List ℕ). n ∷ k ∷ start_of b ∷ xs) (rest ∙ rw (marks, rows))
  where
    front : (b : List ℕ) → 3 ≤ length b → b ≡ get_or b 0 0 ∷ get_or b 1 0 ∷ get_or b 2 0 ∷ drop 3 b
    front [] l = absurd (omega arith)
    front (x ∷ []) l = absurd (omega arith)
    front (x ∷ y ∷ []) l = absurd (omega arith)
    front (x ∷ y ∷ z ∷ xs) l = refl

accepted_bytes : {limit : ℕ} {b : List ℕ} → judge_answer limit b ≡ answered no_values → Encodes limit b
accepted_bytes {limit} {b} e = record {
  table = drawn_of b;
  well_formed = (accepted_drawn limit b e).well_formed;
  bytes = read_bytes (accepted_head limit b e);
}

pub tables : (limit : ℕ) (b : List ℕ) → Tables limit b
tables limit b = record {
  accepts = (accepted_bytes, bytes_accepted);
  only = λ m e. subst (λ (x : List ℕ). SameTable m (drawn_of x)) (sym e) (same_read m);
  kept = λ all.
      let h = passed_head limit b (all_answered (head_questions limit b) no_values all) in
      let wrong = first_revoking (drawn_marks b) (nexts b) (symbols_of b) in
      (λ e. unrevoked_kept h (eqb-true wrong (length (nexts b)) e), λ k. eq-eqb wrong (length (nexts b)) (kept_unrevoked h k));
}
