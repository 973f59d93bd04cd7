-- An accepted file is the encoding of what the reader hands back, whatever its bodies are.
use mathlib.Core.Path.{◌≡◌, refl, sym, ap, ap₂, subst, ◌∙◌}
use mathlib.Core.List.{List, [], ◌∷◌, ◌++◌}
use Prim.Native.Nat.{ℕ, zero, suc, ◌+◌, ◌*◌, ◌≤◌, ◌<◌}
use native.Mathlib.Nat.{le_refl}
use native.Mathlib.Numerals.{add-one}
use native.Mathlib.Omega.{arith}
use lib.ListN.{length, take, drop, length-take, length-drop, length-append, take-append-drop}
use lib.Seq.{take-add, take_all, drop-drop}
use Rattle.theory.specs.Lists.{each}
use Rattle.theory.specs.Answer.{answered}
use Rattle.theory.proofs.Lists.{each_same}
use Rattle.theory.proofs.Answer.{asks_values}
use Rattle.collection.specs.Contents.{count_of, offset_of, length_of, rule_of, body_of, entry_of, start_of_body}
use Rattle.collection.specs.Contents.{collection_questions, collection_answer}
use Rattle.collection.specs.Placed.{Placed}
use Rattle.collection.proofs.Entries.{entry_there, starts_first}
use Rattle.collection.proofs.Answered.{all_answered}
use Rattle.collection.proofs.Placed.{next_start, bodies_placed}
use Rattle.writer.specs.Encoding.{bytes_of, entry_bytes, body_start, entry_for, encoding}
use Rattle.writer.specs.Reading.{Bytes, HandsBack}
use Rattle.writer.proofs.Numbers.{bytes_drop, bytes_take, bytes_back, entry_back}

-- ---- where the bodies start, in a file whose first entries say so

module _ (file : List ℕ) (c : ℕ) (body : ℕ → List ℕ) where
  pub start_first : count_of file ≡ c → start_of_body file 0 ≡ body_start c body 0
  unfolding each
  start_first e = sym (starts_first file 0 (sym e) refl) ∙ omega arith

  pub start_next : (i : ℕ) → offset_of file i ≡ body_start c body i → length_of file i ≡ length (body i)
      → start_of_body file (suc i) ≡ body_start c body (suc i)
  unfolding each
  start_next i o l =
      ap (start_of_body file) (sym (add-one i)) ∙ next_start file i ∙ omega (arith, o, l, length-append (each i body) (body i))

-- ---- an accepted file

module _ (file : List ℕ) (b : Bytes file) (accepted : collection_answer file ≡ answered (count_of file ∷ [])) where
  placed : (i : ℕ) → i < count_of file → Placed file i
  placed = bodies_placed file accepted

  starts : (i : ℕ) → i ≤ count_of file → start_of_body file i ≡ body_start (count_of file) (body_of file) i
  starts zero h = start_first file (count_of file) (body_of file) refl
  starts (suc i) h =
      let p = placed i h in
      start_next file (count_of file) (body_of file) i (p.starts ∙ starts i (omega (arith, h))) (sym p.whole)

  end : length file ≡ body_start (count_of file) (body_of file) (count_of file)
  end = (all_answered file accepted).end ∙ starts (count_of file) (le_refl (count_of file))

  offset : (i : ℕ) → i < count_of file → offset_of file i ≡ body_start (count_of file) (body_of file) i
  offset i h = (placed i h).starts ∙ starts i (omega (arith, h))

  count_bytes : bytes_of 2 (count_of file) ≡ take 2 file
  count_bytes = bytes_back 2 0 file (omega (arith, end)) b

  entry_bytes_lem : (i : ℕ) → i < count_of file → entry_for (count_of file) (rule_of file) (body_of file) i ≡ take 8 (drop (2 + 8 * i) file)
  entry_bytes_lem i h =
      let there = entry_there file i refl h in
      let long : length (entry_of file i) ≡ 8 =
      ap length (sym there) ∙ length-take 8 (drop (2 + 8 * i) file) ∙ omega (arith, length-drop (2 + 8 * i) file, end, h) in
      let bytes : Bytes (entry_of file i) = subst Bytes there (bytes_take 8 (drop (2 + 8 * i) file) (bytes_drop (2 + 8 * i) file b)) in
      ap₂ (λ (o s : ℕ). entry_bytes o s (rule_of file i)) (sym (offset i h)) (placed i h).whole ∙ entry_back (entry_of file i) long bytes ∙ sym there

  entries : (i : ℕ) → i ≤ count_of file → each i (entry_for (count_of file) (rule_of file) (body_of file)) ≡ take (8 * i) (drop 2 file)
  unfolding each
  entries zero h = refl
  entries (suc i) h =
      let e : 8 * suc i ≡ 8 * i + 8 = omega arith in
      ap₂ (λ (x y : List ℕ). x ++ y) (entries i (omega (arith, h))) (entry_bytes_lem i h ∙ ap (take 8) (sym (drop-drop (8 * i) 2 file)))
      ∙ sym (take-add (8 * i) 8 (drop 2 file))
      ∙ ap (λ (n : ℕ). take n (drop 2 file)) (sym e)

  bodies : (i : ℕ) → i ≤ count_of file → each i (body_of file) ≡ take (length (each i (body_of file))) (drop (2 + 8 * count_of file) file)
  unfolding each
  bodies zero h = refl
  bodies (suc i) h =
      let before = length (each i (body_of file)) in
      let behind = 2 + 8 * count_of file in
      let here : body_of file i ≡ take (length (body_of file i)) (drop before (drop behind file)) =
      ap₂ (λ (n o : ℕ). take n (drop o file)) (sym (placed i h).whole) (offset i h)
      ∙ ap (take (length (body_of file i))) (sym (drop-drop before behind file)) in
      ap₂ (λ (x y : List ℕ). x ++ y) (bodies i (omega (arith, h))) here
      ∙ sym (take-add before (length (body_of file i)) (drop behind file))
      ∙ ap (λ (n : ℕ). take n (drop behind file)) (sym (length-append (each i (body_of file)) (body_of file i)))

  pub file_encodes : file ≡ encoding (count_of file) (rule_of file) (body_of file)
  file_encodes =
      let c = count_of file in
      let rest = drop (8 * c) (drop 2 file) in
      let last : each c (body_of file) ≡ rest =
      bodies c (le_refl c)
      ∙ take_all (length (each c (body_of file))) (drop (2 + 8 * c) file) (omega (arith, length-drop (2 + 8 * c) file, end))
      ∙ sym (drop-drop (8 * c) 2 file) in
      sym (ap₂ (λ (x y : List ℕ). x ++ y) count_bytes
      (ap₂ (λ (x y : List ℕ). x ++ y) (entries c (le_refl c)) last ∙ take-append-drop (8 * c) (drop 2 file)) ∙ take-append-drop 2 file)

-- ---- two encodings of the same numbers and bodies are one

pub encoding_same : (c : ℕ) {rule number : ℕ → ℕ} {body text : ℕ → List ℕ} → ((i : ℕ) → i < c → rule i ≡ number i) → ((i : ℕ) → i < c → body i ≡ text i)
    → encoding c rule body ≡ encoding c number text
encoding_same c {rule} {number} {body} {text} r t =
    let before : (i : ℕ) → i < c → each i body ≡ each i text = λ i l. each_same i body text (λ j h. t j (omega (arith, l, h))) in
    ap₂ (λ (x y : List ℕ). bytes_of 2 c ++ (x ++ y))
    (each_same c (entry_for c rule body) (entry_for c number text) (λ i l. rw (before i l, t i l, r i l)))
    (each_same c body text t)

-- an accepted file answers its count
counted : (file : List ℕ) {n : ℕ} → collection_answer file ≡ answered (n ∷ []) → count_of file ≡ n
unfolding collection_answer
counted file a = (let v = asks_values (collection_questions file) (count_of file ∷ []) a in cc)

-- a file of bytes from which the reader hands back these numbers and bodies is their encoding
pub one_encoding : {file : List ℕ} {c : ℕ} {rule : ℕ → ℕ} {body : ℕ → List ℕ} → Bytes file → HandsBack file c rule body → file ≡ encoding c rule body
one_encoding {file} {c} {rule} {body} b h =
    let e = counted file h.accepted in
    file_encodes file b (subst (λ (n : ℕ). collection_answer file ≡ answered (n ∷ [])) (sym e) h.accepted)
    ∙ ap (λ (n : ℕ). encoding n (rule_of file) (body_of file)) e
    ∙ encoding_same c h.rules h.bodies
