-- `refine` meets its contract: the splitters before c are done.
use mathlib.Core.Bool.{Bool}
use Prim.Native.Nat.{ℕ}
use Rattle.monitor.specs.Graph.{automaton}
use Rattle.partition.specs.Blocks.{Partition}
use Rattle.refining.specs.Refined.{Inside, Refined}
use Rattle.refining.proofs.Rounds.{Refining}
use Rattle.refining.proofs.refine.Given as goal

abbrev pub invariant-loop-c : goal.invariant-loop-c
invariant-loop-c l =
    Partition l.predecessors.graph.states l.square l.blocks × Inside l.predecessors.graph.states l.initial.blocks l.blocks
    × ((ends : ℕ → ℕ → Bool) → Refined (automaton l.predecessors.graph) ends l.r l.old l.initial.square l.initial.blocks
    → Refining (automaton l.predecessors.graph) ends l.r l.old l.initial.square l.initial.blocks l.c l.square l.blocks)
