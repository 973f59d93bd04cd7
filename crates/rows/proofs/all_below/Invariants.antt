-- `all_below` meets its contract: the states below q are gathered.
use Rattle.state_set.specs.Member.{member}
use Rattle.rows.proofs.Visit.{Below}
use Rattle.rows.proofs.all_below.Given as goal

abbrev pub invariant-loop-q : goal.invariant-loop-q
invariant-loop-q l = Below l.q (member l.set)
