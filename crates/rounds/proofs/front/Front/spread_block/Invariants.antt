-- `spread_block` meets its contract: the symbols below a are done.
use Rattle.rounds.specs.Fronts.{Adds, block_of}
use Rattle.rounds.proofs.front.Front.spread_block.Given as goal

abbrev pub invariant-loop-a : goal.invariant-loop-a
invariant-loop-a l = Adds l.self (block_of l.self l.v l.w l.a) l.initial.search l.initial.next l.search l.next
