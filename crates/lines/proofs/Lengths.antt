-- How long a line is at most.
use mathlib.Core.Path.{◌≡◌, refl, sym, ap, ◌∙◌}
use mathlib.Core.Bool.{Bool, true, false, cond}
use mathlib.Core.List.{List, [], ◌∷◌}
use mathlib.Core.Option.{Option, none, some}
use Prim.Native.Nat.{ℕ, ◌+◌, ◌*◌, ◌≤◌, ◌<◌, ◌^◌}
use native.Mathlib.Nat.{mul-le-mul}
use native.Mathlib.Omega.{arith}
use lib.ListN.{length, drop, length-append, length-take, length-drop}
use lib.Dec.{eqb}
use borrow.Author.Tests.{eqb-true}
use Rattle.theory.specs.Lists.{each}
use Rattle.theory.specs.Below.{first}
use Rattle.theory.specs.Answer.{Question, Answer, refused, answered, asks}
use Rattle.theory.specs.Monitor.{Monitor, WellFormed, monitorability}
use Rattle.theory.specs.Series.{Series, sent_trace}
use Rattle.theory.specs.Distance.{differ, faults_of}
use Rattle.theory.specs.Computed.{horizon, first_witness, extent_of, distance}
use Rattle.theory.proofs.Below.{first_le}
use Rattle.theory.proofs.Answer.{asks_values}
use Rattle.theory.proofs.Faults.{steps_good, steps_rise}
use Rattle.theory.proofs.Witness.{first_harms}
use Rattle.monitor.specs.Format.{states_of, symbols_of, drawn_marks, nexts, monitor_of}
use Rattle.monitor.specs.Questions.{not_below, revokes, table_questions, no_values, judge_answer}
use Rattle.monitor.proofs.Accepted.{accepted_table}
use Rattle.text.specs.Text.{ascii, decimal}
use Rattle.lines.specs.Line.{monitorability_text, distance_text, card_line, refusal_line, judged_line, rule_line, line_most}
use Rattle.text.proofs.Decimal.{decimal_short}

-- a number that has at most five digits
abbrev pub Five : ℕ → Type 0
Five n = n < 100000

five_digits : (n : ℕ) → Five n → length (decimal n) ≤ 5
five_digits n h = decimal_short 4 n h

word_short : (y : ℕ) → length (monitorability_text y) ≤ 4
word_short y = go (eqb y 0) (eqb y 1) (eqb y 2)
  where
    go : (a b c : Bool) → length (cond a (ascii "pos") (cond b (ascii "neg") (cond c (ascii "both") (ascii "none")))) ≤ 4
    go true b c = omega arith
    go false true c = omega arith
    go false false true = omega arith
    go false false false = omega arith

-- ---- the line of an accepted table

module _ {limit : ℕ} {m : Monitor} (w : WellFormed limit m) (small : Five (horizon limit)) where
  abbrev states : ℕ
  states = m.automaton.states

  near : horizon states ≤ horizon limit
  near = (let l = w.states_most in omega (arith, l, mul-le-mul l l))

  distance_short : (set : ℕ) → length (distance_text (distance m 3 set)) ≤ 5
  distance_short set = go (first_witness m 3 set) refl
    where
      go : (o : Option Series) → first_witness m 3 set ≡ o → length (distance_text (extent_of o)) ≤ 5
      go none e = omega arith
      go (some s) e =
          let g = m.automaton in
          let f = first_harms g (differ m 3) (faults_of m set) w.closed (steps_good g set) m.start w.start_in (steps_rise set g.symbols) s e in
          let l = f.within in
          let n = near in
          five_digits (length (sent_trace s)) (omega (arith, l, n, small))

  pub card_short : (rule : ℕ) → Five rule → length (card_line rule m) ≤ line_most
  unfolding each
  card_short rule h =
      let r = five_digits rule h in
      let n = near in
      let s = five_digits states (omega (arith, n, small)) in
      let y = word_short (monitorability m) in
      let d₀ = distance_short (2 ^ 0) in
      let d₁ = distance_short (2 ^ 1) in
      let d₂ = distance_short (2 ^ 2) in
      let d₃ = distance_short (2 ^ 3) in
      simp length-append (omega (arith, r, s, y, d₀, d₁, d₂, d₃))

-- ---- the line of a refused body

pub refusal_short : (rule code place : ℕ) → Five rule → Five code → Five place → length (refusal_line rule code place) ≤ line_most
refusal_short rule code place h i j =
    let r = five_digits rule h in
    let s = five_digits code i in
    let t = five_digits place j in
    simp length-append (omega (arith, r, s, t))

-- each question that is reached has the property
unfoldable pub Told : (Question → Type 0) → List Question → Type 0
Told P [] = Unit {0}
Told P (q ∷ qs) = P q × (q.yes ≡ true → Told P qs)

-- a refusal has the number and the place of a question with the property
pub told_by : (P : Question → Type 0) {A : Type 0} (qs : List Question) (values : A) {code place : ℕ} → Told P qs → asks qs values ≡ refused code place
    → (q : Question) × P q × (q.number ≡ code) × (q.place ≡ place)
unfolding Told
told_by P [] values t e = absurd (let z : ◌≡◌ {A = ℕ} 0 1 = cc in omega arith)
told_by P (q ∷ qs) values {code} {place} t e = go q.yes refl e (told_by P qs values)
  where
    go : (b : Bool) → q.yes ≡ b → cond b (asks qs values) (refused q.number q.place) ≡ refused code place
        → (Told P qs → asks qs values ≡ refused code place → (r : Question) × P r × (r.number ≡ code) × (r.place ≡ place))
        → (r : Question) × P r × (r.number ≡ code) × (r.place ≡ place)
    go true p h rest = rest (t.1 p) h
    go false p h rest = (q, t.0, cc, cc)

-- both numbers of a refusal have at most five digits
abbrev Short : Question → Type 0
Short q = Five q.number × Five q.place

module _ (limit : ℕ) (b : List ℕ) (long : length b ≤ 65536) where
  told : Told Short (table_questions limit b)
  unfolding Told
  told = (
    (omega arith, omega (arith, long)),
    λ _. (
      (omega arith, omega arith),
      λ _. (
        (omega arith, omega arith),
        λ _. (
          (omega arith, omega (arith, long)),
          λ exact. (let e = eqb-true (length b) (3 + states_of b + states_of b * symbols_of b) exact in (
            (omega arith, omega arith),
            λ _. (
              (omega arith, six e),
              λ _. (
                (omega arith, rest e (not_below (states_of b) (nexts b))),
                λ _. ((omega arith, rest e (revokes (drawn_marks b) (nexts b) (symbols_of b))), λ _. tt),
              ),
            ),
          )),
        ),
      ),
    ),
  )
    where
      six : length b ≡ 3 + states_of b + states_of b * symbols_of b → Five (3 + first (not_below 3 (drawn_marks b)) 0 (length (drawn_marks b)))
      six e =
          let f = first_le (not_below 3 (drawn_marks b)) 0 (length (drawn_marks b)) in
          let l = length-take (states_of b) (drop 3 b) in
          omega (arith, f, l, e, long)

      rest : length b ≡ 3 + states_of b + states_of b * symbols_of b → (wrong : ℕ → Bool) → Five (3 + states_of b + first wrong 0 (length (nexts b)))
      rest e wrong =
          let f = first_le wrong 0 (length (nexts b)) in
          let l = length-drop (3 + states_of b) b in
          omega (arith, f, l, e, long)

-- the line of a rule: its number has two bytes, its body is not longer than the greatest input
pub line_short : (limit rule : ℕ) (body : List ℕ) → Five (horizon limit) → Five rule → length body ≤ 65536 → length (rule_line limit rule body) ≤ line_most
unfolding rule_line judge_answer
line_short limit rule body small h long = go (judge_answer limit body) refl
  where
    go : (a : Answer (List ℕ)) → judge_answer limit body ≡ a → length (judged_line rule a (monitor_of body)) ≤ line_most
    go (refused code place) e =
        let t = told_by Short (table_questions limit body) no_values (told limit body long) e in
        refusal_short rule code place h (omega (arith, t.1.0, t.2)) (omega (arith, t.1.1, t.3))
    go (answered values) e =
        let same = asks_values (table_questions limit body) no_values e in
        card_short (accepted_table limit body (e ∙ ap answered (sym same))).well_formed small rule h
