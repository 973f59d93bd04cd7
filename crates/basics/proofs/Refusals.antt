-- What a `?` hands back.
use mathlib.Core.Path.{◌≡◌}
use Rattle.std.specs.Prelude.{Result, IsErrAnd}
use Rattle.std.proofs.lemmas.Result.{err_from_is_err_and}
use Rattle.basics.specs.Refusals.{refusal, answer_by}
use Rattle.basics.specs.declared.refusal.Refusal.{Refusal}

-- the result r of a `?` that met the refusal x is that refusal
pub handed_back : {A B : Type 0} (values : A → B) (r : Result A Refusal) (x : Refusal) → IsErrAnd r (λ y. y ≡ x) → answer_by values r ≡ refusal x
handed_back values r x e = (let met = err_from_is_err_and r e in rw (met.1, met.2))
