-- `read_bodies` stays within its list and its space, and ends.
use mathlib.Core.Path.{◌≡◌}
use Prim.Native.Nat.{◌≤◌, ◌-◌}
use lib.ListN.{length}
use Rattle.pack.proofs.Packer.read_bodies.Given as goal

abbrev pub invariant-loop-i : goal.invariant-loop-i
invariant-loop-i g l =
    (l.i ≤ length l.lengths) × (l.from ≤ 65535) × (length l.lengths ≡ length l.initial.lengths) × (length l.bodies ≡ length l.initial.bodies)

abbrev pub decreases-loop-i : goal.decreases-loop-i
decreases-loop-i g l = length l.lengths - l.i
