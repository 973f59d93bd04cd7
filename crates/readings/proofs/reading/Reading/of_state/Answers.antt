-- `of_state` meets its contract.
use Rattle.std.proofs.Common.{◌∙◌}
use Rattle.theory.specs.Monitor.{reading}
use Rattle.readings.proofs.reading.Reading.of_state.Goals as goal

pub returns-in-Marks : goal.returns-in-Marks
unfolding reading
returns-in-Marks c = rw (c.in-Marks.is, c.marks.ensures)

pub returns-in-Classes : goal.returns-in-Classes
unfolding reading
returns-in-Classes c = rw c.in-Classes.is (c.number.ensures ∙ c.class_of.ensures)
