-- The numbers of the readings.
use Rattle.std.specs.Prelude.{◌≡◌, [], ◌∷◌, ℕ, Result}
use Rattle.theory.specs.Answer.{asks}
use Rattle.basics.specs.Refusals.{answer_by}
use Rattle.basics.specs.declared.refusal.Refusal.{Refusal}
use Rattle.monitor.specs.Questions.{question10}
use Rattle.readings.specs.declared.reading.Reading.{Reading}
use Rattle.readings.specs.declared.reading.Reading.TheVariants.{Marks, Classes}

-- the number by which a call names a reading
abbrev pub domain_of : Reading → ℕ
domain_of Marks = 3
domain_of Classes = 6

-- the reading that a number names, or the refusal of question 10
abbrev pub Decodes : ℕ → Result Reading Refusal → Type 0
Decodes d r = answer_by domain_of r ≡ asks (question10 d ∷ []) d
