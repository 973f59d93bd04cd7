-- The lowest bit is taken out of a word, and so the lowest state out of a set or of a part of it.
use mathlib.Core.Path.{◌≡◌, refl, sym, ◌∙◌}
use mathlib.Core.Bool.{Bool, true, false, not, ◌&&◌, and-true, and-false}
use mathlib.Core.Logic.{⊎_elim}
use Prim.Native.Nat.{ℕ, ◌+◌, ◌-◌, ◌*◌, ◌/◌, ◌%◌, ◌^◌, ◌≤◌, ◌<◌, zero-le}
use native.Mathlib.Omega.{arith}
use lib.Dec.{eqb}
use lib.Bits.{bit_and}
use lib.Count.{count_trailing_zeros}
use borrow.Author.Tests.{eq-eqb, ne_eqb, eqb-true}
use Rattle.theory.specs.Below.{count, first}
use Rattle.theory.proofs.Below.{clash, and_left, first_is, first_here, first_below, both_ways, lt_or_le, count_more}
use Rattle.theory.proofs.Bits.{bit, bit_lowest_out, zeros_first, zeros_less}
use Rattle.state_set.specs.Member.{in_word, in_words, is_part, in_part}
use Rattle.std.specs.Prelude.{Option, Some, None, is_some}
use Rattle.state_set.specs.Taking.{Taken, Finds}
use Rattle.state_set.proofs.Words.{low_at, high_from, each_word}

-- the lowest bit of a word
pub bit_taken : (word : ℕ) → word < 2 ^ 64 → 0 < word → Taken 64 (in_word word) (count_trailing_zeros 64 word) (in_word (bit_and word (word - 1)))
unfolding in_word
bit_taken word h l =
    let z = zeros_first 64 word in
    let s = zeros_less 64 word h l in
    record {
      lowest = record {
        found = rw z (first_here (bit word) 0 64 (omega (arith, z, s)));
        below = s;
        least = λ p b. first_below (bit word) 0 64 p zero-le (omega (arith, z, b));
      };
      others = bit_lowest_out 64 word h l;
    }

-- a set has fewer states then
pub taken_less : {limit : ℕ} {set rest : ℕ → Bool} {q : ℕ} → Taken limit set q rest → count limit rest < count limit set
taken_less {limit} {set} {rest} {q} t =
    count_more limit rest set (λ p _ h. and_left (set p) (not (eqb p q)) (sym (t.others p) ∙ h)) q t.lowest.below
    (t.others q ∙ rw (t.lowest.found, eq-eqb q q refl)) t.lowest.found

-- ---- the word holds states of part w

module _ (w word bit rest : ℕ) (t : Taken 64 (in_word word) bit (in_word rest)) where
  in_it : (p : ℕ) → is_part w p ≡ true → p ≡ p % 64 + w * 64
  in_it p k = (let e = eqb-true (p / 64) w k in omega (arith, e))

  pub part_taken : w < 2 → Taken 128 (in_part w word) (bit + w * 64) (in_part w rest)
  unfolding in_part
  part_taken lw = record {
    lowest = record {
      found = rw (quotient, remainder, eq-eqb w w refl) t.lowest.found;
      below = omega (arith, t.lowest.below, lw);
      least = λ p b. least p b (is_part w p) refl;
    };
    others = λ p. others p (is_part w p) refl;
  }
    where
      quotient : (bit + w * 64) / 64 ≡ w
      quotient = omega (arith, t.lowest.below)

      remainder : (bit + w * 64) % 64 ≡ bit
      remainder = omega (arith, t.lowest.below)

      least : (p : ℕ) → p < bit + w * 64 → (c : Bool) → is_part w p ≡ c → (c && in_word word (p % 64)) ≡ false
      least p b true k = t.lowest.least (p % 64) (let e = in_it p k in omega (arith, b, e))
      least p b false k = refl

      others : (p : ℕ) → (c : Bool) → is_part w p ≡ c → (c && in_word rest (p % 64)) ≡ ((c && in_word word (p % 64)) && not (eqb p (bit + w * 64)))
      others p true k = t.others (p % 64) ∙ rw same
        where
          same : eqb (p % 64) bit ≡ eqb p (bit + w * 64)
          same = both_ways
              (λ h. eq-eqb p (bit + w * 64) (let z = eqb-true (p % 64) bit h in let e = in_it p k in omega (arith, z, e)))
              (λ h. eq-eqb (p % 64) bit (let z = eqb-true p (bit + w * 64) h in let e = in_it p k in omega (arith, z, e)))
      others p false k = refl

-- ---- the word is one of two

module _ (word bit rest : ℕ) (t : Taken 64 (in_word word) bit (in_word rest)) where
  pub low_taken : (high : ℕ) → Taken 128 (in_words word high) bit (in_words rest high)
  low_taken high = record {
    lowest = record {
      found = low_at word high bit t.lowest.below ∙ t.lowest.found;
      below = omega (arith, t.lowest.below);
      least = λ p b. low_at word high p (omega (arith, b, t.lowest.below)) ∙ t.lowest.least p b;
    };
    others = each_word rest high
        (λ p l. t.others p ∙ rw (low_at word high p l))
        (λ p l. rw (high_from word high p l, ne_eqb p bit (λ e. omega (arith, e, l, t.lowest.below))) (sym (and-true (in_word high (p - 64)))));
  }

  pub high_taken : (low low' : ℕ) → ((q : ℕ) → (in_word low q ≡ false) × (in_word low' q ≡ false)) → Taken 128 (in_words low word) (bit + 64)
      (in_words low' rest)
  high_taken low low' none = record {
    lowest = record {
      found = high_from low word (bit + 64) (omega arith) ∙ rw past t.lowest.found;
      below = omega (arith, t.lowest.below);
      least = least;
    };
    others = each_word low' rest
        (λ p l. (none p).1 ∙ rw (low_at low word p l, (none p).0))
        (λ p l. t.others (p - 64) ∙ rw (high_from low word p l, same p l));
  }
    where
      past : bit + 64 - 64 ≡ bit
      past = omega arith

      least : (p : ℕ) → p < bit + 64 → in_words low word p ≡ false
      least p b = ⊎_elim
          (λ l. low_at low word p l ∙ (none p).0)
          (λ (l : 64 ≤ p). high_from low word p l ∙ t.lowest.least (p - 64) (omega (arith, b, l)))
          (lt_or_le p 64)

      same : (p : ℕ) → 64 ≤ p → eqb (p - 64) bit ≡ eqb p (bit + 64)
      same p l = both_ways
          (λ h. eq-eqb p (bit + 64) (let z = eqb-true (p - 64) bit h in omega (arith, z, l)))
          (λ h. eq-eqb (p - 64) bit (let z = eqb-true p (bit + 64) h in omega (arith, z, l)))

-- ---- empty words

pub none_taken : (low high low' high' : ℕ) → ((q : ℕ) → (in_word low q ≡ false) × (in_word low' q ≡ false))
    → ((q : ℕ) → (in_word high q ≡ false) × (in_word high' q ≡ false)) → (q : ℕ) → (in_words low high q ≡ false) × (in_words low' high' q ≡ false)
none_taken low high low' high' l h q = (
  each_word low high (λ p _. (l p).0) (λ p _. (h (p - 64)).0) q,
  each_word low' high' (λ p _. (l p).1) (λ p _. (h (p - 64)).1) q,
)

pub none_in_part : (w word rest : ℕ) → ((q : ℕ) → (in_word word q ≡ false) × (in_word rest q ≡ false))
    → (q : ℕ) → (in_part w word q ≡ false) × (in_part w rest q ≡ false)
unfolding in_part
none_in_part w word rest none q = rw ((none (q % 64)).0, (none (q % 64)).1, and-false (is_part w q)) (refl, refl)

-- the first number of an empty set is the limit
pub none_found : (limit : ℕ) (set : ℕ → Bool) (r : Option ℕ) (empty : Bool) → Finds limit set r → is_some r ≡ not empty → empty ≡ eqb (first set 0 limit) limit
none_found limit set None true none e =
    sym (eq-eqb (first set 0 limit) limit (first_is set limit 0 limit zero-le (omega arith) (λ p _ _. none p) (λ l. absurd (omega arith))))
none_found limit set None false none e = absurd (clash e refl)
none_found limit set (Some q) true h e = absurd (clash refl e)
none_found limit set (Some q) false h e =
    let z : first set 0 limit ≡ q = first_is set limit 0 q zero-le (omega (arith, h.below)) (λ p _ b. h.least p b) (λ _. h.found) in
    sym (ne_eqb (first set 0 limit) limit (λ k. omega (arith, k, z, h.below)))
