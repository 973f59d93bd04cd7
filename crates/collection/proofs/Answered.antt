-- What the questions of an accepted collection leave.
use mathlib.Core.Path.{◌≡◌}
use mathlib.Core.List.{List, [], ◌∷◌}
use Prim.Native.Nat.{ℕ, ◌≤◌}
use lib.ListN.{length}
use borrow.Author.Tests.{eqb-true, eq-eqb, le-leb}
use Rattle.theory.specs.Answer.{answered, asks}
use Rattle.theory.proofs.Answer.{asks_yes, asks_both}
use Rattle.collection.specs.Contents.{count_of, contents_end, entry_limit, rule_of, start_of_body, rises, follows, first_no}
use Rattle.collection.specs.Contents.{question20, question21, question22, question23}
use Rattle.collection.specs.Contents.{question24, question25, collection_questions, collection_answer}

-- what questions 23, 24 and 25 leave
pub record Answered (file : List ℕ) : Type 0 where
  pub rise : first_no (rises (rule_of file)) (count_of file) ≡ count_of file
  pub follow : first_no (follows file) (count_of file) ≡ count_of file
  pub end : length file ≡ start_of_body file (count_of file)

module _ (file : List ℕ) (accepted : collection_answer file ≡ answered (count_of file ∷ [])) where
  values : asks (collection_questions file) (count_of file ∷ []) ≡ answered (count_of file ∷ [])
  unfolding collection_answer
  values = accepted

  pub all_answered : Answered file
  all_answered =
      let v = count_of file ∷ [] in
      let before = question20 file ∷ question21 (count_of file) ∷ question22 file ∷ [] in
      let from24 = question24 file ∷ question25 file ∷ [] in
      let rules = question23 (rule_of file) (count_of file) in
      let q₃ = asks_yes rules from24 v (asks_both before (rules ∷ from24) v values).1 in
      let q₄ = asks_yes (question24 file) (question25 file ∷ []) v q₃.1 in
      let q₅ = asks_yes (question25 file) [] v q₄.1 in
      record {
        rise = eqb-true (first_no (rises (rule_of file)) (count_of file)) (count_of file) q₃.0;
        follow = eqb-true (first_no (follows file) (count_of file)) (count_of file) q₄.0;
        end = eqb-true (length file) (start_of_body file (count_of file)) q₅.0;
      }

-- and a collection of which they and the others hold is accepted
pub all_accepted : (file : List ℕ) → 2 ≤ length file → count_of file ≤ entry_limit → contents_end file ≤ length file → Answered file
    → collection_answer file ≡ answered (count_of file ∷ [])
unfolding collection_answer
all_accepted file two few there a =
    let c = count_of file in
    rw (
      le-leb 2 (length file) two,
      le-leb c entry_limit few,
      le-leb (contents_end file) (length file) there,
      eq-eqb (first_no (rises (rule_of file)) c) c a.rise,
      eq-eqb (first_no (follows file) c) c a.follow,
      eq-eqb (length file) (start_of_body file c) a.end,
    )
