-- What a call answers: its values, or a refusal with its number and place.
use Rattle.std.specs.Prelude.{List, [], ◌∷◌, ℕ, Result, Ok, Err}
use Rattle.theory.specs.Answer.{Answer, refused, answered}
use Rattle.basics.specs.declared.refusal.Refusal.{Refusal}
use Rattle.basics.specs.Reasons.{number_of}

-- "The first no ends the call with the number and a place."
abbrev pub refusal : {A : Type 0} → Refusal → Answer A
refusal r = refused (number_of r.reason) r.place

-- what a call answers, by the values that it is asked for
abbrev pub answer_by : {A B : Type 0} → (A → B) → Result A Refusal → Answer B
answer_by values (Ok a) = answered (values a)
answer_by values (Err r) = refusal r

-- 02: "It answers the length written, and so do later calls that write bodies."
abbrev pub length_written : Result ℕ Refusal → Answer (List ℕ)
length_written r = answer_by (λ l. l ∷ []) r
