-- `states_marked` meets its contract: the set holds the states passed that have the mark.
use Rattle.state_set.specs.Member.{Exactly}
use Rattle.opening.specs.Marks.{has_mark}
use Rattle.opening.proofs.states_marked.Given as goal

abbrev pub invariant-loop-q : goal.invariant-loop-q
invariant-loop-q l = Exactly l.q (has_mark l.marks l.v) l.set
