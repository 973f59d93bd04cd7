-- The text by what the questions answer, and how long it is at most.
use mathlib.Core.Path.{◌≡◌, refl, sym, ap, ◌∙◌}
use mathlib.Core.List.{List, [], ◌∷◌}
use Prim.Native.Nat.{ℕ, zero, suc, ◌*◌, ◌≤◌, ◌<◌}
use native.Mathlib.Omega.{arith}
use lib.ListN.{length, length-append}
use borrow.Author.Tests.{le-leb, lt-leb, leb-true}
use Rattle.theory.specs.Lists.{each}
use Rattle.theory.specs.Answer.{Question, Answer, refused, answered, asks}
use Rattle.theory.specs.Computed.{horizon}
use Rattle.theory.proofs.Answer.{asks_yes, asks_values, asks_other, asks_refuses}
use Rattle.monitor.specs.Questions.{no_values}
use Rattle.collection.specs.Contents.{count_of, rule_of, entry_limit, question20, question21, question22, question23, question24, question25}
use Rattle.collection.specs.Contents.{collection_questions, collection_answer}
use Rattle.lines.specs.Line.{line_most}
use Rattle.text.proofs.Decimal.{decimal_short}
use Rattle.lines.proofs.Lengths.{Five, Told, told_by}
use Rattle.listing_text.specs.Listing.{input_limit, question26, listing_questions, listing_text, listing_room}
use Rattle.listing_text.specs.Listing.{header_text, entry_line, accepted_text, refused_text, judged_text}
use Rattle.listing_text.proofs.Texts.{entry_short}

-- what question 21 leaves
few : {A : Type 0} (file : List ℕ) (values : A) {given : A} → asks (collection_questions file) values ≡ answered given → count_of file ≤ entry_limit
few file values e =
    let behind : List Question = question22 file ∷ question23 (rule_of file) (count_of file) ∷ question24 file ∷ question25 file ∷ [] in
    let q = asks_yes (question20 file) (question21 (count_of file) ∷ behind) values e in
    leb-true (count_of file) entry_limit (asks_yes (question21 (count_of file)) behind values q.1).0

module _ (limit : ℕ) (file : List ℕ) where
  pub text_longer : input_limit < length file → refused_text 26 ≡ listing_text limit file
  unfolding listing_text
  text_longer h = rw (lt-leb (length file) input_limit h)

  module _ (long : length file ≤ input_limit) where
    asked : asks (listing_questions file) no_values ≡ asks (collection_questions file) no_values
    asked = rw (le-leb (length file) input_limit long)

    pub text_refused : {number place : ℕ} → refused number place ≡ collection_answer file → refused_text number ≡ listing_text limit file
    unfolding listing_text collection_answer
    text_refused e = ap (judged_text limit file) (sym (asked ∙ asks_refuses (collection_questions file) (count_of file ∷ []) no_values (sym e)))

    module _ {count : ℕ} (e : answered (count ∷ []) ≡ collection_answer file) where
      pub text_accepted : accepted_text limit file ≡ listing_text limit file
      unfolding listing_text collection_answer
      text_accepted = ap (judged_text limit file) (sym (asked ∙ asks_other (collection_questions file) (count_of file ∷ []) no_values (sym e)))

      pub counted : count ≡ count_of file
      unfolding collection_answer
      counted = (let s = asks_values (collection_questions file) (count_of file ∷ []) (sym e) in cc)

      pub count_few : count ≤ entry_limit
      unfolding collection_answer
      count_few = (let c = counted in let f = few file (count_of file ∷ []) (sym e) in omega (arith, c, f))

-- ---- how long the text is at most

lines_short : (most : ℕ) (line : ℕ → List ℕ) (c : ℕ) → ((i : ℕ) → length (line i) ≤ most) → length (each c line) ≤ most * c
unfolding each
lines_short most line zero h = omega arith
lines_short most line (suc c) h =
    let e = length-append (each c line) (line c) in
    let r = lines_short most line c h in
    let l = h c in
    omega (arith, e, r, l)

refused_short : (number : ℕ) → Five number → length (refused_text number) ≤ 25
refused_short number h = (let d = decimal_short 4 number h in simp length-append (omega (arith, d)))

-- no number of a refusal is great
told : (file : List ℕ) → Told (λ q. Five q.number) (listing_questions file)
unfolding Told
told file = (
  omega arith,
  λ _. (omega arith, λ _. (omega arith, λ _. (omega arith, λ _. (omega arith, λ _. (omega arith, λ _. (omega arith, λ _. tt)))))),
)

-- every listing has room, if its rule numbers have two bytes
pub listing_short : (limit : ℕ) (file : List ℕ) → Five (horizon limit) → ((i : ℕ) → rule_of file i < 65536) → length (listing_text limit file) ≤ listing_room
unfolding listing_text
listing_short limit file small low = go (asks (listing_questions file) no_values) refl
  where
    go : (a : Answer (List ℕ)) → asks (listing_questions file) no_values ≡ a → length (judged_text limit file a) ≤ listing_room
    go (refused number place) e =
        let t = told_by (λ q. Five q.number) (listing_questions file) no_values (told file) e in
        let s = refused_short number (omega (arith, t.1, t.2)) in
        omega (arith, s)
    go (answered values) e =
        let q = asks_yes (question26 file) (collection_questions file) no_values e in
        let long = leb-true (length file) input_limit q.0 in
        let c = few file no_values q.1 in
        let l = lines_short line_most (entry_line limit file) (count_of file) (λ i. entry_short limit file i small long (low i)) in
        let a = length-append header_text (each (count_of file) (entry_line limit file)) in
        omega (arith, a, l, c)
