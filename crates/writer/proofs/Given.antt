-- The lists and bodies handed to the writer: where each body lies, and the file they stand for.
use mathlib.Core.Path.{◌≡◌, refl, sym, ap, ap₂, ◌∙◌}
use mathlib.Core.List.{List, [], ◌∷◌, ◌++◌, append_assoc}
use Prim.Native.Nat.{ℕ, zero, suc, ◌+◌, ◌*◌, ◌≤◌, ◌<◌}
use native.Mathlib.Nat.{add-zero}
use native.Mathlib.Numerals.{add-one}
use native.Mathlib.Omega.{arith}
use lib.ListN.{length, get_or, take, drop, length-take, length-drop}
use lib.Seq.{take-add, take_all, take-length}
use borrow.Author.Tests.{eqb-true, leb-true, le-leb, lt-leb}
use mathlib.Core.Logic.{⊎_elim}
use Rattle.std.specs.Prelude.{sum}
use Rattle.std.proofs.lemmas.List.{get_or_past}
use Rattle.std.proofs.lemmas.List.Sums.{sum_by_more, sum_by-take-le}
use Rattle.theory.proofs.Below.{lt_or_le}
use Rattle.theory.specs.Lists.{each}
use Rattle.theory.specs.Answer.{Question, refused, answered, asks}
use Rattle.theory.proofs.Lists.{each_same}
use Rattle.theory.proofs.Answer.{asks_yes, asks_values, asks_both, asks_other, asks_passed, asks_refused}
use Rattle.collection.specs.Contents.{rises, first_no, entry_limit, question21, question23}
use Rattle.monitor.specs.Questions.{no_values, question13}
use Rattle.writer.specs.Encoding.{bytes_of, entry_for}
use Rattle.writer.specs.Writing.{given_rule, given_body, file_of, question27, question28, bodies_questions, given_questions, write_answer}
use Rattle.writer.specs.Writing.{TwoByte, Fits, entry_given}
use Rattle.writer.proofs.Encoded.{Writable, encoding_long}

-- ---- sums

sum_more : (l : List ℕ) (i : ℕ) → sum (take (suc i) l) ≡ sum (take i l) + get_or l i 0
sum_more l i = rw (← add-one i) (⊎_elim (λ h. sum_by_more (λ x. x) l i 0 h) past (lt_or_le i (length l)))
  where
    past : length l ≤ i → sum (take (i + 1) l) ≡ sum (take i l) + get_or l i 0
    past h =
        rw (take_all (i + 1) l (omega (arith, h)), take_all i l h, get_or_past l i 0 h) (sym (add-zero (sum l)))

sum_most : (l : List ℕ) (i : ℕ) → sum (take i l) ≤ sum l
sum_most l i = sum_by-take-le (λ x. x) l i

-- s is the sum of the first i lengths and a number more
pub record Summed (base : ℕ) (lengths : List ℕ) (s i : ℕ) : Type 0 where
  pub upto : i ≤ length lengths
  pub is : s ≡ base + sum (take i lengths)
  pub bounded : s ≤ base + 65536 * i

pub none_summed : (base : ℕ) (lengths : List ℕ) → Summed base lengths base 0
none_summed base lengths = record { upto = omega arith; is = omega arith; bounded = omega arith }

pub one_summed : {base : ℕ} {lengths : List ℕ} {s i : ℕ} → Summed base lengths s i → i < length lengths → get_or lengths i 0 < 65536
    → Summed base lengths (s + get_or lengths i 0) (i + 1)
one_summed {base} {lengths} {s} {i} p h small =
    let more : sum (take (i + 1) lengths) ≡ sum (take i lengths) + get_or lengths i 0 =
    ap (λ (j : ℕ). sum (take j lengths)) (add-one i) ∙ sum_more lengths i in
    record { upto = omega (arith, h); is = omega (arith, p.is, more); bounded = omega (arith, p.bounded, small) }

pub all_summed : {base : ℕ} {lengths : List ℕ} {s i : ℕ} → Summed base lengths s i → length lengths ≤ i → s ≡ base + sum lengths
all_summed {base} {lengths} {s} {i} p h = p.is ∙ ap (λ (l : List ℕ). base + sum l) (take_all i lengths h)

-- ---- the bodies

module _ (lengths bodies : List ℕ) where
  -- the first i bodies are the first bytes
  pub bodies_before : (i : ℕ) → each i (given_body lengths bodies) ≡ take (sum (take i lengths)) bodies
  unfolding each
  bodies_before zero = refl
  bodies_before (suc i) =
      ap (λ (l : List ℕ). l ++ given_body lengths bodies i) (bodies_before i)
      ∙ sym (take-add (sum (take i lengths)) (get_or lengths i 0) bodies)
      ∙ ap (λ (n : ℕ). take n bodies) (sym (sum_more lengths i))

module _ {rules lengths bodies : List ℕ} (f : Fits rules lengths bodies) where
  before_long : (i : ℕ) → length (each i (given_body lengths bodies)) ≡ sum (take i lengths)
  before_long i =
      ap length (bodies_before lengths bodies i) ∙ length-take (sum (take i lengths)) bodies ∙ omega (arith, sum_most lengths i, f.whole)

  pub body_long : (i : ℕ) → length (given_body lengths bodies i) ≡ get_or lengths i 0
  body_long i =
      length-take (get_or lengths i 0) (drop (sum (take i lengths)) bodies)
      ∙ omega (arith, length-drop (sum (take i lengths)) bodies, sum_more lengths i, sum_most lengths (suc i), f.whole)

  pub bodies_whole : each (length rules) (given_body lengths bodies) ≡ bodies
  bodies_whole =
      let all : take (length rules) lengths ≡ lengths = take_all (length rules) lengths (omega (arith, f.same)) in
      bodies_before lengths bodies (length rules)
      ∙ ap (λ (n : ℕ). take n bodies) (ap sum all ∙ f.whole)
      ∙ take-length bodies

  pub file_is : file_of rules lengths bodies ≡ (bytes_of 2 (length rules) ++ each (length rules) (entry_given rules lengths)) ++ bodies
  file_is =
      let c = length rules in
      let entry = entry_for c (given_rule rules) (given_body lengths bodies) in
      ap₂ (λ (x y : List ℕ). bytes_of 2 c ++ (x ++ y))
      (each_same c entry (entry_given rules lengths) (λ i l. rw (before_long i, body_long i))) bodies_whole
      ∙ sym (append_assoc (bytes_of 2 c) (each c (entry_given rules lengths)) bodies)

  pub file_long : length (file_of rules lengths bodies) ≡ 2 + 8 * length rules + length bodies
  file_long =
      encoding_long (length rules) (given_rule rules) (given_body lengths bodies) ∙ ap (λ (n : ℕ). 2 + 8 * length rules + n) (ap length bodies_whole)

-- ---- what the questions leave

-- the room is asked last
module _ (limit : ℕ) (rules lengths bodies : List ℕ) (room : ℕ) where
  abbrev front : List Question
  front = given_questions limit rules lengths bodies

  abbrev last : List Question
  last = question13 (length (file_of rules lengths bodies)) room ∷ []

  abbrev answer : List ℕ
  answer = length (file_of rules lengths bodies) ∷ []

  -- what was written had passed all before it
  pub written_asked : {values : List ℕ} → write_answer limit rules lengths bodies room ≡ answered values → asks front no_values ≡ answered no_values
  unfolding write_answer
  written_asked e =
      let all = e ∙ ap answered (sym (asks_values (front ++ last) answer e)) in
      asks_other front answer no_values (asks_both front last answer all).0

  pub write_refused : {number place : ℕ} → asks front no_values ≡ refused number place → refused number place ≡ write_answer limit rules lengths bodies room
  unfolding write_answer
  write_refused e = sym (asks_refused front last answer no_values e)

  module _ (f : Fits rules lengths bodies) (e : asks front no_values ≡ answered no_values) where
    pub write_short : room < 2 + 8 * length rules + length bodies → refused 13 0 ≡ write_answer limit rules lengths bodies room
    unfolding write_answer
    write_short h =
        let no = lt-leb (length (file_of rules lengths bodies)) room (omega (arith, file_long f, h)) in
        sym (asks_passed front last answer no_values e ∙ rw no)

    pub write_answered : 2 + 8 * length rules + length bodies ≤ room
        → answered ((2 + 8 * length rules + length bodies) ∷ []) ≡ write_answer limit rules lengths bodies room
    unfolding write_answer
    write_answered h =
        let yes = le-leb (length (file_of rules lengths bodies)) room (omega (arith, file_long f, h)) in
        ap (λ (n : ℕ). answered (n ∷ [])) (sym (file_long f)) ∙ sym (asks_passed front last answer no_values e ∙ rw yes)

module _ (limit : ℕ) (rules lengths bodies : List ℕ) (e : asks (given_questions limit rules lengths bodies) no_values ≡ answered no_values) where
  abbrev more : List Question
  more = bodies_questions limit lengths bodies (length rules)

  given_rise : (first_no (rises (given_rule rules)) (length rules) ≡ length rules) × Fits rules lengths bodies
  given_rise =
      let rise = question23 (given_rule rules) (length rules) in
      let whole = question28 lengths bodies in
      let q₁ = asks_yes (question27 rules lengths) (question21 (length rules) ∷ rise ∷ whole ∷ more) no_values e in
      let q₂ = asks_yes (question21 (length rules)) (rise ∷ whole ∷ more) no_values q₁.1 in
      let q₃ = asks_yes rise (whole ∷ more) no_values q₂.1 in
      let q₄ = asks_yes whole more no_values q₃.1 in (
        eqb-true (first_no (rises (given_rule rules)) (length rules)) (length rules) q₃.0,
        record {
          same = eqb-true (length rules) (length lengths) q₁.0;
          few = leb-true (length rules) entry_limit q₂.0;
          whole = eqb-true (sum lengths) (length bodies) q₄.0;
        },
      )

  pub given_fits : Fits rules lengths bodies
  given_fits = given_rise.1

  pub given_writable : TwoByte rules → TwoByte lengths → Writable (length rules) (given_rule rules) (given_body lengths bodies)
  given_writable r l = record {
    few = given_fits.few;
    rise = given_rise.0;
    small = λ i h. r i;
    short = λ i h. rw (body_long given_fits i) (l i);
  }
