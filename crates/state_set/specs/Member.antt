-- What is in a set of states.
use Rattle.std.specs.Prelude.{◌≡◌, Bool, cond, ◌&&◌, List, ℕ, ◌-◌, ◌/◌, ◌%◌, ◌^◌, eqb, ltb, length, get_or}
use Rattle.state_set.specs.declared.StateSet.{StateSet}

-- bit q of a word is set
unfoldable pub in_word : ℕ → ℕ → Bool
in_word word q = eqb (word / 2 ^ q % 2) 1

-- "A set of states takes two words" (02, note 6): the states below 64 stand in the lower word, the others in the upper
unfoldable pub in_words : ℕ → ℕ → ℕ → Bool
in_words low high q = cond (ltb q 64) (in_word low q) (in_word high (q - 64))

-- state q is in the set
unfoldable pub member : StateSet → ℕ → Bool
member s q = in_words s.low s.high q

-- state q is one of part w: those that word w of a set has
abbrev pub is_part : ℕ → ℕ → Bool
is_part w q = eqb (q / 64) w

-- it is in a word that holds states of part w
unfoldable pub in_part : ℕ → ℕ → ℕ → Bool
in_part w word q = is_part w q && in_word word (q % 64)

-- the set holds the states below n that pass the test, and no other
pub record Exactly (n : ℕ) (f : ℕ → Bool) (s : StateSet) : Type 0 where
  pub at : (q : ℕ) → member s q ≡ (ltb q n && f q)

-- ---- sets in an array

-- the set of no states
abbrev pub no_states : StateSet
no_states = record { low = 0; high = 0 }

-- state q is in set i
abbrev pub set_at : List StateSet → ℕ → ℕ → Bool
set_at sets i q = member (get_or sets i no_states) q

-- set i became that of the states that pass the test
pub record Put (before : List StateSet) (i : ℕ) (test : ℕ → Bool) (after : List StateSet) : Type 0 where
  pub size : length after ≡ length before
  pub here : (q : ℕ) → set_at after i q ≡ test q
  pub elsewhere : (j q : ℕ) → (j ≡ i → ⊥) → set_at after j q ≡ set_at before j q
