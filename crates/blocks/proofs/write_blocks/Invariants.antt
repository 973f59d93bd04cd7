-- `write_blocks` meets its contract: the area holds the blocks of the states passed, and then what it held before.
use mathlib.Core.Path.{◌≡◌}
use Rattle.theory.specs.Certificate.{lowest_alike}
use Rattle.theory.proofs.Values.{filled}
use Rattle.monitor.specs.Tables.{monitor_of_table}
use Rattle.readings.specs.Domains.{domain_of}
use Rattle.blocks.proofs.write_blocks.Given as goal

abbrev pub invariant-loop-q : goal.invariant-loop-q
invariant-loop-q l = l.area ≡ filled (lowest_alike (monitor_of_table l.fn.table) (domain_of l.fn.reading)) l.initial.area l.q
