-- `column_of` meets its contract: the area holds every witness, so that the search is no refusal.
use mathlib.Core.Path.{◌≡◌, ◌∙◌}
use Rattle.theory.specs.Answer.{answered}
use Rattle.witness.specs.Figures.{outcome}
use Rattle.witness.specs.Search.{monitor_in}
use Rattle.immunity.specs.Findings.{table_figures}
use Rattle.immunity.proofs.Marks.{marks_answer, outcome_ok, outcome_values, alone}
use Rattle.immunity.proofs.column_of.Goals.{After-find_first}
use Rattle.immunity.proofs.column_of.Goals as goal

answers : (c : After-find_first) → outcome c.find_first.result ≡ answered (table_figures (monitor_in c.args.search.now) 3 c.with-set.result.bits)
answers c = marks_answer c.requires.0 c.with-set.result.bits _ c.requires.1 c.find_first.ensures.figures

pub unwrap-requires : goal.unwrap-requires
unwrap-requires c = outcome_ok _ _ (answers (goal.at.unwrap-requires c).After-find_first)

pub returns : goal.returns
returns c =
    outcome_values _ _ c.unwrap.result c.unwrap.ensures (answers (goal.at.returns c).After-find_first)
    ∙ alone (monitor_in c.args.search.now) c.args.kind c.empty.ensures c.with-set.ensures
