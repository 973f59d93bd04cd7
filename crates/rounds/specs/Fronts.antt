-- What the states at some distance from a state add in a round.
use Rattle.std.specs.Prelude.{Bool, ℕ}
use Rattle.theory.specs.Automaton.{Automaton}
use Rattle.state_set.specs.Member.{is_part, member}
use Rattle.monitor.specs.Graph.{automaton}
use Rattle.rows.specs.declared.search.Fresh.{Fresh}
use Rattle.rows.specs.declared.search.Search.{Search}
use Rattle.rows.specs.Searching.{Goes, Stays}
use Rattle.rounds.specs.declared.front.Front.{Front}
use Rattle.rounds.specs.Layers.{symbol_done, block_done, part_done, state_done}

-- the automaton that the front is of
abbrev pub graph_of : Front → Automaton
graph_of front = automaton front.predecessors.graph

-- the round goes on from the front
pub record Adds (front : Front) (more : ℕ → ℕ → ℕ → Bool) (search : Search) (next : Fresh)
    (search' : Search) (next' : Fresh) : Type 0 where
  pub stays : Stays search search'
  pub goes : Goes (graph_of front) front.distance front.row (member front.states) more front.predecessors.sets.now
      search next search' next'

-- ---- what is done at a time

-- the rows of part v that symbol a leads to the state, in the columns of part w
abbrev pub symbol_of : Front → ℕ → ℕ → ℕ → ℕ → ℕ → ℕ → Bool
symbol_of front v w a = symbol_done (graph_of front) front.row (is_part v) (is_part w) a

-- the same for each symbol below k
abbrev pub block_of : Front → ℕ → ℕ → ℕ → ℕ → ℕ → ℕ → Bool
block_of front v w k = block_done (graph_of front) front.row (is_part v) (is_part w) k

-- the same for each symbol, in all columns
abbrev pub part_of : Front → ℕ → ℕ → ℕ → ℕ → Bool
part_of front v = part_done (graph_of front) front.row (is_part v) front.predecessors.graph.symbols

-- the same for all rows
abbrev pub all_of : Front → ℕ → ℕ → ℕ → Bool
all_of front = state_done (graph_of front) front.row front.predecessors.graph.symbols
