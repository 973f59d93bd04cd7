-- `write` meets its contract.
use Rattle.theory.specs.Monitor.{reading}
use Rattle.readings.proofs.Traces.{lent_values}
use Rattle.readings.proofs.reading.Reading.write.Goals as goal

pub returns-in-Marks : goal.returns-in-Marks
unfolding reading
returns-in-Marks c = rw (c.in-Marks.is, c.copy.ensures, c.marks.ensures) (lent_values _ _ c.args.table.now.sound.marks_length)

pub returns-in-Classes : goal.returns-in-Classes
unfolding reading
returns-in-Classes c = rw c.in-Classes.is c.write_all_classes.ensures
