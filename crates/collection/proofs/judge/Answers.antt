-- `judge` meets its contract: the questions that are left once the first are answered yes.
use Rattle.std.proofs.Common.{◌≡◌, sym, ap, ◌∙◌, List, [], ◌∷◌, ℕ, not, zero-add, rules}
use borrow.Author.Tests.{le-leb, lt-leb, eq-eqb, ne_eqb}
use Rattle.theory.specs.Answer.{Question, asks}
use Rattle.collection.specs.Contents.{rises, follows, first_no, count_of, start_of_body, rule_of, question23, question24, question25, collection_answer}
use Rattle.collection.proofs.Order.{found_at, found_one, found_none}
use Rattle.collection.proofs.judge.Goals.{After-first_not_rising-unsorted, After-first_in-misplaced, After-start_of_body}
use Rattle.collection.proofs.judge.Goals as goal

-- the first questions are answered yes, these are left
abbrev Left : List ℕ → List Question → Type 0
Left file questions = collection_answer file ≡ asks questions (count_of file ∷ [])

three : (c : After-first_not_rising-unsorted)
    → (let file = c.args.file.now in
    Left file (question23 (rule_of file) (count_of file) ∷ question24 file ∷ question25 file ∷ []))
unfolding collection_answer
three c =
    let few = le-leb _ 512 c.if-count-gt-ENTRY_LIMIT.false in
    rw (← c.count_of-count.ensures.value, le-leb 2 _ c.if-len-lt2.false, few, le-leb _ _ c.if-len-count.false)

unsorted : (c : After-first_not_rising-unsorted) → c.first_not_rising-unsorted.result ≡ first_no (rises (rule_of c.args.file.now)) c.count_of-count.result
unsorted c = c.first_not_rising-unsorted.ensures (rule_of c.args.file.now) (λ i n h e. search rules)

misplaced : (c : After-first_in-misplaced) → c.first_in-misplaced.result ≡ first_no (follows c.args.file.now) c.count_of-count.result
misplaced c = c.first_in-misplaced.ensures (λ i. not (follows c.args.file.now i)) (λ i b from upto e. search rules)

four : (c : After-first_in-misplaced)
    → c.first_not_rising-unsorted.result ≡ first_no (rises (rule_of c.args.file.now)) c.count_of-count.result
    → (let file = c.args.file.now in
    Left file (question23 (rule_of file) (count_of file) ∷ question24 file ∷ question25 file ∷ [])
    → Left file (question24 file ∷ question25 file ∷ []))
four c found left = left ∙ rw (found_none (rises (rule_of c.args.file.now)) c.count_of-count.ensures.value found c.if-unsorted-count.false)

five : (c : After-start_of_body)
    → c.first_in-misplaced.result ≡ first_no (follows c.args.file.now) c.count_of-count.result
    → (let file = c.args.file.now in
    Left file (question24 file ∷ question25 file ∷ [])
    → Left file (question25 file ∷ []))
five c found left = left ∙ rw (found_none (follows c.args.file.now) c.count_of-count.ensures.value found c.if-misplaced-count.false)

pub returns-then-len-lt2 : goal.returns-then-len-lt2
unfolding collection_answer
returns-then-len-lt2 c = rw (c.at.ensures, lt-leb 2 _ c.if-len-lt2.true)

pub returns-then-count-gt-ENTRY_LIMIT : goal.returns-then-count-gt-ENTRY_LIMIT
unfolding collection_answer
returns-then-count-gt-ENTRY_LIMIT c =
    rw (
      c.at-then-count-gt-ENTRY_LIMIT.ensures,
      le-leb 2 _ c.if-len-lt2.false,
      ← c.count_of-count.ensures.value,
      lt-leb _ 512 c.if-count-gt-ENTRY_LIMIT.true,
    )

pub returns-then-len-count : goal.returns-then-len-count
unfolding collection_answer
returns-then-len-count c =
    let few = le-leb _ 512 c.if-count-gt-ENTRY_LIMIT.false in
    rw (c.at-then-len-count.ensures, le-leb 2 _ c.if-len-lt2.false, ← c.count_of-count.ensures.value, few, lt-leb _ _ c.if-len-count.true)

pub returns-then-unsorted-count : goal.returns-then-unsorted-count
returns-then-unsorted-count c =
    let s = (goal.at.returns-then-unsorted-count c).After-first_not_rising-unsorted in
    let count = c.count_of-count.ensures.value in
    rw (c.at-then-unsorted-count.ensures)
    (sym (three s ∙ rw (found_one _ count (unsorted s) c.if-unsorted-count.true, found_at _ count (unsorted s), zero-add)))

pub returns-then-misplaced-count : goal.returns-then-misplaced-count
returns-then-misplaced-count c =
    let s = (goal.at.returns-then-misplaced-count c).After-first_in-misplaced in
    let t = (goal.at.returns-then-misplaced-count c).After-first_not_rising-unsorted in
    let count = c.count_of-count.ensures.value in
    rw (c.at-then-misplaced-count.ensures)
    (sym (four s (unsorted t) (three t) ∙ rw (found_one _ count (misplaced s) c.if-misplaced-count.true, found_at _ count (misplaced s), zero-add)))

pub returns-then-len-start_of_body : goal.returns-then-len-start_of_body
returns-then-len-start_of_body c =
    let s = (goal.at.returns-then-len-start_of_body c).After-first_in-misplaced in
    let t = (goal.at.returns-then-len-start_of_body c).After-first_not_rising-unsorted in
    let end = c.start_of_body.ensures ∙ ap (start_of_body c.args.file.now) c.count_of-count.ensures.value in
    rw (c.at-then-len-start_of_body.ensures)
    (sym (five (goal.at.returns-then-len-start_of_body c).After-start_of_body (misplaced s) (four s (unsorted t) (three t))
    ∙ rw (← end, ne_eqb _ _ c.if-len-start_of_body.true)))

pub returns : goal.returns
returns c =
    let s = (goal.at.returns c).After-first_in-misplaced in
    let t = (goal.at.returns c).After-first_not_rising-unsorted in
    let count = c.count_of-count.ensures.value in
    let end = c.start_of_body.ensures ∙ ap (start_of_body c.args.file.now) count in
    sym (five (goal.at.returns c).After-start_of_body (misplaced s) (four s (unsorted t) (three t))
    ∙ rw (← end, eq-eqb _ _ c.if-len-start_of_body.false, ← count))
