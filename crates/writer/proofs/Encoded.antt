-- From an encoding the reader hands back its numbers and bodies.
use mathlib.Core.Path.{◌≡◌, refl, sym, ap, ap₂, ◌∙◌}
use mathlib.Core.Bool.{Bool, true}
use mathlib.Core.List.{List, [], ◌∷◌, ◌++◌, append_assoc, append-nil}
use Prim.Native.Nat.{ℕ, zero, suc, ◌+◌, ◌*◌, ◌-◌, ◌≤◌, ◌<◌}
use native.Mathlib.Nat.{le_refl, add-zero}
use native.Mathlib.Omega.{arith}
use lib.ListN.{length, take, drop, length-append}
use borrow.Author.Tests.{eq-eqb}
use Rattle.theory.specs.Lists.{each}
use Rattle.theory.specs.Answer.{answered}
use Rattle.theory.proofs.Lists.{each_cut}
use Rattle.collection.specs.Contents.{number_at, count_of, offset_of, length_of, rule_of, body_of, entry_of, start_of_body}
use Rattle.collection.specs.Contents.{rises, follows, first_no, entry_limit, collection_answer}
use Rattle.collection.proofs.Answered.{all_accepted}
use Rattle.collection.proofs.Entries.{entry_there, number_drop}
use Rattle.collection.proofs.Order.{passes_at, all_pass}
use Rattle.writer.specs.Encoding.{bytes_of, body_start, entry_for, encoding}
use Rattle.writer.specs.Reading.{HandsBack}
use Rattle.writer.proofs.Numbers.{Short, number_back}
use Rattle.writer.proofs.Read.{start_first, start_next}

-- numbers and bodies that a collection can have
pub record Writable (c : ℕ) (rule : ℕ → ℕ) (body : ℕ → List ℕ) : Type 0 where
  pub few : c ≤ entry_limit
  pub rise : first_no (rises rule) c ≡ c
  pub small : (i : ℕ) → i < c → rule i < 65536
  pub short : (i : ℕ) → i < c → length (body i) < 65536

-- i entries have 8 * i bytes
pub entries_long : (i : ℕ) (entry : ℕ → List ℕ) → ((j : ℕ) → length (entry j) ≡ 8) → length (each i entry) ≡ 8 * i
unfolding each
entries_long zero entry e = refl
entries_long (suc i) entry e = length-append (each i entry) (entry i) ∙ omega (arith, entries_long i entry e, e i)

pub encoding_long : (c : ℕ) (rule : ℕ → ℕ) (body : ℕ → List ℕ) → length (encoding c rule body) ≡ body_start c body c
encoding_long c rule body =
    let entries = each c (entry_for c rule body) in
    length-append (bytes_of 2 c) (entries ++ each c body)
    ∙ omega (arith, length-append entries (each c body), entries_long c (entry_for c rule body) (λ j. refl))

module _ {c : ℕ} {rule : ℕ → ℕ} {body : ℕ → List ℕ} (w : Writable c rule body) where
  abbrev file : List ℕ
  file = encoding c rule body

  abbrev entries : List ℕ
  entries = each c (entry_for c rule body)

  bodies_short : (i : ℕ) → i ≤ c → length (each i body) ≤ 65536 * i
  unfolding each
  bodies_short zero h = omega arith
  bodies_short (suc i) h = omega (arith, length-append (each i body) (body i), bodies_short i (omega (arith, h)), w.short i h)

  start_small : (i : ℕ) → i < c → body_start c body i < 4294967296
  start_small i h = omega (arith, bodies_short i (omega (arith, h)), w.few, h)

  count_read : count_of file ≡ c
  count_read = number_back 2 c (entries ++ each c body) (omega (arith, w.few))

  entry_read : (i : ℕ) → i < c → entry_of file i ≡ entry_for c rule body i
  entry_read i h =
      sym (entry_there file i (sym count_read) h)
      ∙ each_cut i c (entry_for c rule body) h (bytes_of 2 c) (each c body) (2 + 8 * i) (omega (arith, entries_long i (entry_for c rule body) (λ j. refl)))

  -- a number of an entry, by its width and its place
  number_read : (i : ℕ) → i < c → (w at n : ℕ) (rest : List ℕ) → drop at (entry_for c rule body i) ≡ bytes_of w n ++ rest → Short w n
      → number_at w (entry_of file i) at ≡ n
  number_read i h w at n rest e s =
      ap₂ (λ (l : List ℕ) (j : ℕ). number_at w l j) (entry_read i h) (sym (add-zero at))
      ∙ sym (number_drop w at (entry_for c rule body i) 0)
      ∙ ap (λ (l : List ℕ). number_at w l 0) e
      ∙ number_back w n rest s

  offset_read : (i : ℕ) → i < c → offset_of file i ≡ body_start c body i
  offset_read i h =
      let small = start_small i h in
      number_read i h 4 0 (body_start c body i) (bytes_of 2 (length (body i)) ++ bytes_of 2 (rule i)) refl (omega (arith, small))

  length_read : (i : ℕ) → i < c → length_of file i ≡ length (body i)
  length_read i h = number_read i h 2 4 (length (body i)) (bytes_of 2 (rule i)) refl (omega (arith, w.short i h))

  rule_read : (i : ℕ) → i < c → rule_of file i ≡ rule i
  rule_read i h = number_read i h 2 6 (rule i) [] refl (omega (arith, w.small i h))

  body_read : (i : ℕ) → i < c → body_of file i ≡ body i
  body_read i h =
      ap₂ (λ (n o : ℕ). take n (drop o file)) (length_read i h) (offset_read i h)
      ∙ ap (λ (l : List ℕ). take (length (body i)) (drop (body_start c body i) l)) again
      ∙ each_cut i c body h (bytes_of 2 c ++ entries) [] (body_start c body i)
      (omega (arith, length-append (bytes_of 2 c) entries, entries_long c (entry_for c rule body) (λ j. refl)))
    where
      again : file ≡ (bytes_of 2 c ++ entries) ++ (each c body ++ [])
      again = sym (append_assoc (bytes_of 2 c) entries (each c body ++ []) ∙ ap (λ (l : List ℕ). bytes_of 2 c ++ (entries ++ l)) (append-nil (each c body)))

  start_read : (i : ℕ) → i ≤ c → start_of_body file i ≡ body_start c body i
  start_read zero h = start_first file c body count_read
  start_read (suc i) h = start_next file c body i (offset_read i h) (length_read i h)

  -- questions 23 and 24
  rises_read : (i : ℕ) → i < c → rises (rule_of file) i ≡ true
  rises_read i h = rw (rule_read (i - 1) (omega (arith, h)), rule_read i h) (passes_at (rises rule) c w.rise i h)

  follows_read : (i : ℕ) → i < c → follows file i ≡ true
  follows_read i h = eq-eqb (offset_of file i) (start_of_body file i) (offset_read i h ∙ sym (start_read i (omega (arith, h))))

  accepted : collection_answer file ≡ answered (c ∷ [])
  accepted =
      let long = encoding_long c rule body in
      let e = count_read in
      let all : (test : ℕ → Bool) → ((i : ℕ) → i < c → test i ≡ true) → first_no test (count_of file) ≡ count_of file =
      λ test h. all_pass test (count_of file) (λ i l. h i (omega (arith, e, l))) in
      all_accepted file (omega (arith, long)) (omega (arith, e, w.few)) (omega (arith, e, long)) record {
        rise = all (rises (rule_of file)) rises_read;
        follow = all (follows file) follows_read;
        end = long ∙ sym (ap (start_of_body file) e ∙ start_read c (le_refl c));
      }
      ∙ ap (λ (n : ℕ). answered (n ∷ [])) e

  pub encoding_read : HandsBack (encoding c rule body) c rule body
  encoding_read = record { accepted = accepted; rules = rule_read; bodies = body_read }
