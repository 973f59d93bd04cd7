-- `believe_in` meets its contract: the first witness of the test that the verdict is misread.
use Rattle.witness.specs.Figures.{witness_answer}
use Rattle.trust.specs.Trust.{trust_answer}
use Rattle.trust.proofs.believe_in.Goals as goal

pub returns : goal.returns
unfolding trust_answer witness_answer
returns c = c.first_witness_in.ensures
