-- `settle` meets its contract: marks are settled where they stand, and no state passed takes one.
use Rattle.std.proofs.Common.{ℕ}
use Rattle.theory.specs.Monitor.{state_limit}
use Rattle.monitor.specs.Format.{Table}
use Rattle.opening.proofs.Settling.{Going, ahead}
use Rattle.opening.proofs.settle.Given as goal

abbrev pub invariant-loop-q : goal.invariant-loop-q
invariant-loop-q l =
    (s : ℕ) → Table state_limit l.graph.states l.graph.symbols s l.drawn l.graph.nexts.now
    → Going l.graph.states l.graph.symbols s l.drawn l.graph.nexts.now l.initial.area l.area l.q

abbrev pub decreases-loop-q : goal.decreases-loop-q
decreases-loop-q l = ahead l.graph.states l.area l.q
