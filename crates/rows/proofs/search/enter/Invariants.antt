-- `enter` meets its contract: what is left to be entered makes the whole.
use Rattle.theory.specs.Monitor.{state_limit}
use Rattle.state_set.specs.Member.{in_part}
use Rattle.rows.proofs.Gather.{Entering}
use Rattle.rows.proofs.search.enter.Given as goal

abbrev pub invariant-loop-q : goal.invariant-loop-q
invariant-loop-q l = Entering state_limit l.initial.square l.p (in_part l.w l.word) l.d l.square (in_part l.q-iterator.part l.q-iterator.left)
