-- Body after body is asked its questions, with the entry as the place.
use mathlib.Core.Path.{◌≡◌, refl, sym, ap, ap₂, ◌∙◌}
use mathlib.Core.List.{List, [], ◌∷◌, ◌++◌, map}
use mathlib.Core.Bool.{Bool, true, false, cond}
use Prim.Native.Nat.{ℕ, ◌+◌, ◌≤◌, ◌<◌}
use native.Mathlib.Nat.{zero-add}
use native.Mathlib.Numerals.{add-one}
use native.Mathlib.Omega.{arith}
use lib.ListN.{length, get_or, take, drop}
use Rattle.theory.specs.Lists.{each}
use Rattle.theory.specs.Answer.{Question, Answer, refused, answered, asks}
use Rattle.theory.proofs.Lists.{each_at}
use Rattle.theory.proofs.Answer.{asks_passed, asks_refused}
use Rattle.basics.specs.declared.refusal.Refusal.{Refusal}
use Rattle.monitor.specs.Questions.{table_questions, no_values, judge_answer, judgement}
use Rattle.std.specs.Prelude.{Result, Ok, Err, MatchResult, IsErrAnd, sum}
use Rattle.std.proofs.lemmas.Result.{err_from_is_err_and}
use Rattle.writer.specs.Writing.{given_body, placed_at, body_questions, bodies_questions}
use Rattle.writer.proofs.Given.{Summed, none_summed, one_summed}

-- ---- questions with another place

-- an answer, with this place where it is a refusal
abbrev pub placing : ℕ → Answer (List ℕ) → Answer (List ℕ)
placing entry (refused number place) = refused number entry
placing entry (answered values) = answered values

placed : (entry : ℕ) (qs : List Question) (values : List ℕ) → asks (map (placed_at entry) qs) values ≡ placing entry (asks qs values)
placed entry [] values = refl
placed entry (q ∷ qs) values = go q.yes (placed entry qs values)
  where
    go : (b : Bool) → asks (map (placed_at entry) qs) values ≡ placing entry (asks qs values)
        → cond b (asks (map (placed_at entry) qs) values) (refused q.number entry)
        ≡ placing entry (cond b (asks qs values) (refused q.number q.place))
    go true h = h
    go false h = refl

-- a body's judgement, and the same with its refusal placed at the entry
pub placed_judgement : (entry : ℕ) (r s : Result (Unit {0}) Refusal) {P : Refusal → Refusal → Type 0}
    → MatchResult r (λ x. s ≡ Ok x) (λ e. IsErrAnd s (P e))
    → ((e d : Refusal) → P e d → d ≡ record { reason = e.reason; place = entry })
    → judgement s ≡ placing entry (judgement r)
placed_judgement entry (Ok x) s m same = ap judgement m
placed_judgement entry (Err e) s m same =
    let met = err_from_is_err_and s m in
    ap judgement (met.1 ∙ ap (λ (d : Refusal). Err d) (same e met.0 met.2))

-- ---- the first i bodies are accepted, and lie in the first bytes

pub record Accepted (limit : ℕ) (lengths bodies : List ℕ) (from i : ℕ) : Type 0 where
  pub behind : Summed 0 lengths from i
  pub asked : asks (bodies_questions limit lengths bodies i) no_values ≡ answered no_values

pub none_asked : (limit : ℕ) (lengths bodies : List ℕ) → Accepted limit lengths bodies 0 0
unfolding each
none_asked limit lengths bodies = record { behind = none_summed 0 lengths; asked = refl }

module _ {limit : ℕ} {lengths bodies : List ℕ} {from i : ℕ} (p : Accepted limit lengths bodies from i) where
  abbrev questions : ℕ → List Question
  questions j = body_questions limit (given_body lengths bodies j) j

  -- the bytes that are judged are the body of entry i
  pub here : {size : ℕ} {bytes : List ℕ} → size ≡ get_or lengths i 0 → bytes ≡ take size (drop from bodies) → bytes ≡ given_body lengths bodies i
  here e f = f ∙ ap₂ (λ (n s : ℕ). take n (drop s bodies)) e (p.behind.is ∙ zero-add (sum (take i lengths)))

  pub one_more : i < length lengths → get_or lengths i 0 < 65536 → placing i (judge_answer limit (given_body lengths bodies i)) ≡ answered no_values
      → Accepted limit lengths bodies (from + get_or lengths i 0) (i + 1)
  unfolding each judge_answer
  one_more h small e = record {
    behind = one_summed p.behind h small;
    asked =
        ap (λ (j : ℕ). asks (bodies_questions limit lengths bodies j) no_values) (add-one i)
        ∙ asks_passed (each i questions) (questions i) no_values no_values p.asked
        ∙ placed i (table_questions limit (given_body lengths bodies i)) no_values
        ∙ e;
  }

  pub one_no : i < length lengths → {number place : ℕ} → placing i (judge_answer limit (given_body lengths bodies i)) ≡ refused number place
      → refused number place ≡ asks (bodies_questions limit lengths bodies (length lengths)) no_values
  unfolding judge_answer
  one_no h e =
      let r = each_at i (length lengths) questions h in
      sym (ap (λ (qs : List Question). asks qs no_values) r.1
      ∙ asks_passed (each i questions) (questions i ++ r.0) no_values no_values p.asked
      ∙ asks_refused (questions i) r.0 no_values no_values (placed i (table_questions limit (given_body lengths bodies i)) no_values ∙ e))

  pub all_asked : length lengths ≤ i → answered no_values ≡ asks (bodies_questions limit lengths bodies (length lengths)) no_values
  all_asked h = (let e : i ≡ length lengths = omega (arith, h, p.behind.upto) in
      sym (ap (λ (j : ℕ). asks (bodies_questions limit lengths bodies j) no_values) (sym e) ∙ p.asked))
