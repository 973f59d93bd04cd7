-- `spread_rows` meets its contract: the rows that are not left are done.
use mathlib.Core.Path.{◌≡◌}
use mathlib.Core.Bool.{Bool, true}
use mathlib.Core.List.{List}
use Prim.Native.Nat.{ℕ, ◌+◌, ◌*◌, ◌<◌}
use lib.Dec.{ltb}
use Rattle.theory.specs.Automaton.{Automaton, Closed}
use Rattle.theory.specs.Monitor.{symbol_limit}
use Rattle.state_set.specs.declared.StateSet.{StateSet}
use Rattle.state_set.specs.Member.{is_part, in_part, set_at}
use Rattle.rows.specs.Sets.{Preceding, Into, Within}
use Rattle.rows.specs.Midway.{set_done}
use Rattle.rows.specs.Searching.{Goes, Stays}
use Rattle.rows.proofs.Several.{but_left}
use Rattle.rows.proofs.search.Search.spread_rows.Given as goal

abbrev pub invariant-loop-p : goal.invariant-loop-p
invariant-loop-p l =
    Stays l.initial.self l.self × ((q : ℕ) → in_part l.p-iterator.part l.p-iterator.left q ≡ true → in_part l.v l.word q ≡ true)
    × ((g : Automaton) (x a : ℕ) (front : ℕ → Bool) (predecessors : List StateSet) → Within g.states (in_part l.v l.word) → x < g.states → a < g.symbols
    → (Closed g → Preceding g (λ q b. ltb q g.states) predecessors → Into g a (is_part l.w) front (in_part l.w l.into))
    → ((p : ℕ) → in_part l.v l.word p ≡ true → set_at predecessors (x * symbol_limit + a) p ≡ true)
    → Goes g l.r x front (but_left (in_part l.p-iterator.part l.p-iterator.left) (set_done (is_part l.w) (in_part l.v l.word) a)) predecessors
    l.initial.self l.initial.next l.self l.next)
