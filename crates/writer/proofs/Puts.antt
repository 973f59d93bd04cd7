-- Bytes put into an area from a place on.
use mathlib.Core.Path.{◌≡◌, refl, sym, ap, ap₂, ◌∙◌}
use mathlib.Core.List.{List, [], ◌∷◌, ◌++◌, append_assoc, append-nil}
use Prim.Native.Nat.{ℕ, suc, ◌+◌, ◌*◌, ◌-◌, ◌≤◌, ◌<◌}
use native.Mathlib.Nat.{zero-add, le_of_eq}
use native.Mathlib.Numerals.{add-one}
use native.Mathlib.Omega.{arith}
use lib.ListN.{length, get_or, take, drop, set, length-append, length-drop, drop_of_length-le}
use lib.Seq.{sets, length-sets, sets-eq, drop-drop, take_all}
use Rattle.theory.specs.Lists.{each}
use Rattle.writer.specs.Encoding.{bytes_of, entry_bytes}
use Rattle.writer.specs.Writing.{file_of, Fits, entry_given}
use Rattle.writer.proofs.Encoded.{entries_long}
use Rattle.writer.proofs.Given.{Summed, none_summed, one_summed, file_is, file_long}

-- what is put behind what was put is put with it
sets_behind : (s t l : List ℕ) (at : ℕ) {from : ℕ} → at + length s ≡ from → sets (sets l at s) from t ≡ sets l at (s ++ t)
sets_behind [] t l at {from} e = (let z : from ≡ at = omega (arith, e) in ap (λ (i : ℕ). sets l i t) z)
sets_behind (a ∷ s) t l at e = sets_behind s t (set l at a) (suc at) (omega (arith, e))

-- bytes copied into all that stands behind a place
pub put_at : (bytes l : List ℕ) (at : ℕ) {out : List ℕ} → at + length bytes ≤ length l
    → (let k = length l - at in
    out ≡ bytes ++ drop (length bytes) (take k (drop at l)) → take at l ++ (out ++ drop k (drop at l)) ≡ sets l at bytes)
put_at bytes l at {out} room e =
    let k = length l - at in
    let long : length (drop at l) ≤ k = le_of_eq (length-drop at l) in
    ap₂ (λ (x y : List ℕ). take at l ++ (x ++ y)) e (drop_of_length-le (drop at l) long)
    ∙ ap₂ (λ (x : List ℕ) (y : List ℕ). take at l ++ y) e (append-nil _)
    ∙ ap (λ (y : List ℕ). take at l ++ (bytes ++ drop (length bytes) y)) (take_all k (drop at l) long)
    ∙ ap (λ (y : List ℕ). take at l ++ (bytes ++ y)) (drop-drop (length bytes) at l)
    ∙ sym (append_assoc (take at l) bytes (drop (at + length bytes) l))
    ∙ sym (sets-eq bytes l at room)

-- ---- the entries

-- the first i entries are put, and the next body starts at the offset
pub record Entered (rules lengths before after : List ℕ) (offset i : ℕ) : Type 0 where
  pub starts : Summed (2 + 8 * length rules) lengths offset i
  pub put : after ≡ sets before 2 (each i (entry_given rules lengths))

pub none_entered : (rules lengths before : List ℕ) → Entered rules lengths before before (2 + 8 * length rules) 0
unfolding each
none_entered rules lengths before = record { starts = none_summed (2 + 8 * length rules) lengths; put = refl }

module _ {rules lengths before after : List ℕ} {offset i : ℕ} (p : Entered rules lengths before after offset i) where
  pub entered_same : length after ≡ length before
  entered_same = ap length p.put ∙ length-sets before 2 (each i (entry_given rules lengths))

  pub one_entered : {next : List ℕ} → i < length lengths → get_or lengths i 0 < 65536
      → next ≡ sets after (2 + 8 * i) (entry_bytes offset (get_or lengths i 0) (get_or rules i 0))
      → Entered rules lengths before next (offset + get_or lengths i 0) (i + 1)
  unfolding each
  one_entered {next} h small e = record {
    starts = one_summed p.starts h small;
    put =
        e
        ∙ ap₂ (λ (l : List ℕ) (o : ℕ). sets l (2 + 8 * i) (entry_bytes o (get_or lengths i 0) (get_or rules i 0))) p.put p.starts.is
        ∙ sets_behind (each i (entry_given rules lengths)) (entry_given rules lengths i) before 2
        (omega (arith, entries_long i (entry_given rules lengths) (λ j. refl)))
        ∙ ap (λ (j : ℕ). sets before 2 (each j (entry_given rules lengths))) (sym (add-one i));
  }

  pub all_entered : length rules ≡ length lengths → length rules ≤ i → after ≡ sets before 2 (each (length rules) (entry_given rules lengths))
  all_entered same h = (let e : i ≡ length rules = omega (arith, same, h, p.starts.upto) in
      p.put ∙ ap (λ (j : ℕ). sets before 2 (each j (entry_given rules lengths))) e)

-- ---- the file

module _ {rules lengths bodies : List ℕ} (f : Fits rules lengths bodies) (l₀ : List ℕ) (room : 2 + 8 * length rules + length bodies ≤ length l₀) where
  abbrev contents : List ℕ
  contents = bytes_of 2 (length rules) ++ each (length rules) (entry_given rules lengths)

  contents_long : length contents ≡ 2 + 8 * length rules
  contents_long =
      length-append (bytes_of 2 (length rules)) (each (length rules) (entry_given rules lengths))
      ∙ omega (arith, entries_long (length rules) (entry_given rules lengths) (λ j. refl))

  -- the count is put, then the entries, then the bodies
  pub file_put : {l₁ l₂ l₃ : List ℕ} → l₁ ≡ sets l₀ 0 (bytes_of 2 (length rules)) → l₂ ≡ sets l₁ 2 (each (length rules) (entry_given rules lengths))
      → l₃ ≡ sets l₂ (2 + 8 * length rules) bodies
      → l₃ ≡ file_of rules lengths bodies ++ drop (length (file_of rules lengths bodies)) l₀
  file_put e g h =
      let file = file_of rules lengths bodies in
      let last : sets l₀ 0 (contents ++ bodies) ≡ file ++ drop (length file) l₀ =
      ap (sets l₀ 0) (sym (file_is f))
      ∙ sets-eq file l₀ 0 (omega (arith, file_long f, room))
      ∙ ap (λ (n : ℕ). file ++ drop n l₀) (zero-add (length file)) in
      h
      ∙ ap (λ (l : List ℕ). sets l (2 + 8 * length rules) bodies) (g ∙ ap (λ (l : List ℕ). sets l 2 (each (length rules) (entry_given rules lengths))) e
      ∙ sets_behind (bytes_of 2 (length rules)) (each (length rules) (entry_given rules lengths)) l₀ 0 refl)
      ∙ sets_behind contents bodies l₀ 0 (omega (arith, contents_long))
      ∙ last
