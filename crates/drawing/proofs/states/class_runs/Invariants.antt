-- `class_runs` stays within its slice and ends.
use Prim.Native.Nat.{◌-◌}
use lib.ListN.{length}
use Rattle.drawing.proofs.states.class_runs.Given as goal

abbrev pub invariant-loop-q : goal.invariant-loop-q
invariant-loop-q g l = Unit {0}

abbrev pub decreases-loop-q : goal.decreases-loop-q
decreases-loop-q g l = length l.classes - l.q
