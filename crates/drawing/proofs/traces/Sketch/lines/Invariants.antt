-- `lines` ends.
use Prim.Native.Nat.{◌-◌}
use Rattle.drawing.proofs.traces.Sketch.lines.Given as goal

abbrev pub invariant-loop-from : goal.invariant-loop-from
invariant-loop-from g l = Unit {0}

abbrev pub decreases-loop-from : goal.decreases-loop-from
decreases-loop-from g l = l.end - l.from
