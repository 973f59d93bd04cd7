-- How a call answers: its questions in the written order, the first no, and what is written in the area lent.
use Rattle.std.specs.Prelude.{Bool, cond, List, [], ◌∷◌, ◌++◌, ℕ, length, drop}

-- a question's yes or no, and what a no answers: its number and a place
pub record Question : Type 0 where
  pub yes : Bool
  pub number : ℕ
  pub place : ℕ

-- a refusal with its number and place, or an answer with its values: for most calls a list of numbers in the order of
-- 01's sentence
pub data Answer (A : Type 0) : Type 0 where
  refused : ℕ → ℕ → Answer A
  answered : A → Answer A

module _ {A : Type 0} where
  -- "They are asked in this order. The first no ends the call with the number and a place."
  abbrev pub asks : List Question → A → Answer A
  asks [] values = answered values
  asks (q ∷ qs) values = cond q.yes (asks qs values) (refused q.number q.place)

  -- "A refusal leaves lent areas untouched"; otherwise the bytes fill the first places, and "the bytes behind keep
  -- their contents"
  abbrev pub written : Answer A → List ℕ → List ℕ → List ℕ
  written (refused number place) bytes area = area
  written (answered values) bytes area = bytes ++ drop (length bytes) area
