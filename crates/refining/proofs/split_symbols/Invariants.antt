-- `split_symbols` meets its contract: the symbols below a are done.
use Rattle.monitor.specs.Graph.{automaton}
use Rattle.state_set.specs.Member.{member}
use Rattle.refining.proofs.Rounds.{Leading}
use Rattle.refining.proofs.split_symbols.Given as goal

abbrev pub invariant-loop-a : goal.invariant-loop-a
invariant-loop-a l = Leading (automaton l.predecessors.graph) (member l.splitter) l.d l.initial.square l.initial.blocks l.a l.square l.blocks
