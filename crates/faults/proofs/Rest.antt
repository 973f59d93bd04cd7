-- The fault steps from a cursor on: all of them at the beginning, one less at the next, none behind the last.
use mathlib.Core.Path.{◌≡◌, refl, sym, ap, ◌∙◌}
use mathlib.Core.Bool.{Bool, true, false}
use mathlib.Core.List.{List, [], ◌∷◌, ◌++◌, append_assoc, append-nil}
use mathlib.Core.Logic.{⊎_elim}
use Rattle.std.specs.Prelude.{cond, Option, Some}
use Prim.Native.Nat.{ℕ, zero, suc, ◌+◌, ◌-◌, ◌≤◌, ◌<◌}
use native.Mathlib.Numerals.{add-one}
use native.Mathlib.Omega.{arith}
use Rattle.theory.specs.Lists.{each}
use Rattle.theory.specs.Faults.{FaultStep, kinds, seconds, holds, steps}
use Rattle.theory.proofs.Below.{lt_or_le}
use Rattle.faults.specs.declared.Cursor.{Cursor}
use Rattle.faults.specs.declared.Kind.{Kind}
use Rattle.faults.specs.Kinds.{rank_of}
use Rattle.faults.specs.Rest.{step_with, steps_from, steps_if_held, following, between, steps_onward, Placed, step_at, left}
use Rattle.faults.proofs.ByKind.{rank_in}

-- ---- the lists of numbers from one on

module _ {A : Type 0} (f : ℕ → List A) where
  following_more : (c i : ℕ) → following (suc c) i f ≡ following c i f ++ f (i + c)
  unfolding following
  following_more zero i = (let e : i + 0 ≡ i = omega arith in rw e (append-nil (f i)))
  following_more (suc c) i =
      let e : i + suc c ≡ suc i + c = omega arith in
      rw (e, append_assoc (f i) (following c (suc i) f) (f (suc i + c))) (ap (λ (xs : List A). f i ++ xs) (following_more c (suc i)))

  each_following : (n : ℕ) → each n f ≡ following n 0 f
  unfolding each following
  each_following zero = refl
  each_following (suc n) =
      let e : 0 + n ≡ n = omega arith in
      ap (λ (xs : List A). xs ++ f n) (each_following n) ∙ ap (λ (j : ℕ). following n 0 f ++ f j) (sym e) ∙ sym (following_more n 0)

  pub each_between : (n : ℕ) → each n f ≡ between 0 n f
  each_between n = (let e : n - 0 ≡ n = omega arith in rw e (each_following n))

  pub between_first : {i n : ℕ} → i < n → between i n f ≡ f i ++ between (i + 1) n f
  unfolding following
  between_first {i} {n} l = (let e : n - i ≡ suc (n - suc i) = omega arith in rw (add-one i, e))

  pub between_none : {i n : ℕ} → n ≤ i → between i n f ≡ []
  unfolding following
  between_none {i} {n} l = (let e : n - i ≡ 0 = omega arith in rw e)

-- ---- the parts of the rest

module _ (k : ℕ) where
  abbrev later_symbols : ℕ → ℕ → List FaultStep
  later_symbols rank a = between (a + 1) k (steps_from k rank)

  -- from b on at symbol a, and the later symbols
  abbrev from_symbol : ℕ → ℕ → ℕ → List FaultStep
  from_symbol rank a b = between b (seconds rank k) (step_with rank a) ++ later_symbols rank a

  opened : (rank : ℕ) {a : ℕ} → a < k → between a k (steps_from k rank) ≡ from_symbol rank a 0
  opened rank {a} l =
      between_first (steps_from k rank) l ∙ ap (λ (xs : List FaultStep). xs ++ later_symbols rank a) (each_between (step_with rank a) (seconds rank k))

-- ---- the next step

module _ (set k : ℕ) (at : Cursor) (placed : Placed k at) where
  abbrev rank : ℕ
  rank = rank_of at.kind

  -- one step at the cursor, and then these
  abbrev Then : List FaultStep → Type 0
  Then xs = left set k (Some at) ≡ step_at at ∷ xs

  pub next_second : Then (left set k (Some (record { kind = at.kind; first = at.first; second = at.second + 1 })))
  next_second =
      ap (λ (xs : List FaultStep). (xs ++ later_symbols k rank at.first) ++ steps_onward set k (rank + 1))
      (between_first (step_with rank at.first) placed.second_in)

  module _ (last : seconds (rank_of at.kind) k ≤ at.second + 1) where
    symbol_done_lem : Then (later_symbols k rank at.first ++ steps_onward set k (rank + 1))
    symbol_done_lem = next_second ∙ rw (between_none (step_with rank at.first) last)

    pub next_first : at.first + 1 < k → Then (left set k (Some (record { kind = at.kind; first = at.first + 1; second = 0 })))
    next_first l = symbol_done_lem ∙ ap (λ (xs : List FaultStep). step_at at ∷ (xs ++ steps_onward set k (rank + 1))) (opened k rank l)

    pub next_kind : k ≤ at.first + 1 → (next : Option Cursor) → left set k next ≡ steps_onward set k (rank_of at.kind + 1) → Then (left set k next)
    next_kind l next e = symbol_done_lem ∙ rw (between_none (steps_from k rank) l, e)

-- ---- the first step of the kinds from a rank on

-- at the first symbol of a kind
abbrev pub opening : Kind → Cursor
opening kind = record { kind = kind; first = 0; second = 0 }

-- the set lacks the kinds from this rank up to i
abbrev pub Lacked : ℕ → ℕ → ℕ → Type 0
Lacked set rank i = rank ≤ i → (k : ℕ) → steps_onward set k i ≡ steps_onward set k rank

module _ (set rank : ℕ) where
  pub lacked_held : {i : ℕ} → Lacked set rank i → (kind : Kind) → rank_of kind ≡ i → rank ≤ i → holds set (rank_of kind) ≡ true
      → (k : ℕ) → 0 < k → left set k (Some (opening kind)) ≡ steps_onward set k rank
  lacked_held lacked kind is l e k h =
      let of : steps_if_held set k (rank_of kind) ≡ from_symbol k (rank_of kind) 0 0 =
      rw e (each_between (steps_from k (rank_of kind)) k ∙ opened k (rank_of kind) h) in
      ap (λ (xs : List FaultStep). xs ++ steps_onward set k (rank_of kind + 1)) (sym of)
      ∙ sym (between_first (steps_if_held set k) (rank_in kind))
      ∙ ap (steps_onward set k) is
      ∙ lacked l k

  pub lacked_on : {i : ℕ} → Lacked set rank i → i < kinds → (rank ≤ i → holds set i ≡ false) → Lacked set rank (i + 1)
  lacked_on {i} lacked l lack m k =
      ⊎_elim (λ (h : i < rank). (let e : i + 1 ≡ rank = omega (arith, h, m) in ap (steps_onward set k) e))
      (λ (h : rank ≤ i). sym (between_first (steps_if_held set k) l ∙ rw (lack h)) ∙ lacked h k)
      (lt_or_le i rank)

  pub lacked_end : {i : ℕ} → Lacked set rank i → kinds ≤ i → rank ≤ kinds → (k : ℕ) → [] ≡ steps_onward set k rank
  lacked_end {i} lacked l m k = sym (between_none (steps_if_held set k) l) ∙ lacked (omega (arith, l, m)) k

-- those of all kinds
pub all_onward : (set k : ℕ) → steps_onward set k 0 ≡ steps set k
unfolding steps
all_onward set k = sym (each_between (steps_if_held set k) kinds)

-- where there is no symbol there is no step
pub no_symbols : (set : ℕ) → steps set 0 ≡ []
unfolding steps each
no_symbols set = rw (cond_same (holds set 0), cond_same (holds set 1), cond_same (holds set 2), cond_same (holds set 3))
  where
    cond_same : (b : Bool) → cond {A = List FaultStep} b [] [] ≡ []
    cond_same true = refl
    cond_same false = refl
