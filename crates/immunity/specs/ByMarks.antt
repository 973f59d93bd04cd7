-- A search by marks.
use Rattle.std.specs.Prelude.{◌≡◌}
use Rattle.monitor.specs.Tables.{marks_of}
use Rattle.square.specs.declared.Test.TheVariants.{Differ}
use Rattle.square.specs.Square.{Squared, passing}
use Rattle.witness.specs.declared.search.Search.{Search}
use Rattle.witness.specs.Search.{automaton_in, Posed}

-- what the states of its table read are the marks, the test is that they differ, and the square is the one of both
pub record ByMarks (s : Search) : Type 0 where
  pub posed : Posed s
  pub squared : Squared (automaton_in s) (passing s.test s.outputs.now) s.square.now
  pub differ : s.test ≡ Differ
  pub marks : s.outputs.now ≡ marks_of s.table.now
