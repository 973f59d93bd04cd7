-- `examine_in` meets its contract: the first witness of the test that the readings differ.
use Rattle.witness.specs.Figures.{witness_answer}
use Rattle.immunity.specs.Findings.{fault_answer}
use Rattle.immunity.proofs.examine_in.Goals as goal

pub returns : goal.returns
unfolding fault_answer witness_answer
returns c = c.first_witness_in.ensures
