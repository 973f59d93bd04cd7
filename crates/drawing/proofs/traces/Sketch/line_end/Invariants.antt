-- `line_end` ends, behind an item at least.
use Prim.Native.Nat.{◌*◌, ◌≤◌, ◌-◌}
use Rattle.drawing.proofs.traces.Sketch.line_end.Given as goal

abbrev pub invariant-loop-i : goal.invariant-loop-i
invariant-loop-i l = (l.from ≤ l.i) × (l.i ≤ l.end) × (l.used ≤ 43) × (l.used ≤ 43 * (l.i - l.from))

abbrev pub decreases-loop-i : goal.decreases-loop-i
decreases-loop-i l = l.end - l.i
