-- What the functions below the entry point are handed, and what they answer: over a square, whatever the test of two
-- states that it was made for, and outputs of states, whatever the reading.
use Rattle.std.specs.Prelude.{◌≡◌, List, ℕ, ◌≤◌, ◌<◌, length, get_or}
use Rattle.std.proofs.Math.Option.{Option, some}
use Rattle.std.proofs.lemmas.List.Edits.{sets}
use Rattle.theory.specs.Answer.{Answer, asks}
use Rattle.theory.specs.Automaton.{Automaton, run}
use Rattle.theory.specs.Faults.{steps}
use Rattle.theory.specs.Monitor.{Monitor, state_limit}
use Rattle.theory.specs.Series.{Series, sent_trace, received_trace}
use Rattle.theory.specs.Computed.{first_harmful}
use Rattle.monitor.specs.Graph.{automaton}
use Rattle.monitor.specs.Tables.{monitor_of_table}
use Rattle.square.specs.Square.{never, Squared, apart_at_once}
use Rattle.faults.specs.Steps.{step_for, Ranged}
use Rattle.faults.specs.Looks.{OfSet, Suited}
use Rattle.layers.specs.Layers.{Explored}
use Rattle.layers.specs.declared.Layers.{Layers}
use Rattle.totals.specs.declared.Costs.{Costs}
use Rattle.totals.specs.Totals.{Costed, Enough}
use Rattle.witness.specs.declared.search.Search.{Search}
use Rattle.witness.specs.declared.search.Harm.{Harm}
use Rattle.witness.specs.Figures.{FaultFigures, witness_figures, room_questions}

-- the monitor of a search
abbrev pub monitor_in : Search → Monitor
monitor_in s = monitor_of_table s.table.now

-- its automaton
abbrev pub automaton_in : Search → Automaton
automaton_in s = automaton s.table.now.graph

-- the first series that ends at a pair which the square has at 0
abbrev pub first_of : Search → ℕ → Option Series
first_of s set =
    first_harmful (automaton_in s) (apart_at_once s.square.now) (steps set s.table.now.graph.symbols) s.table.now.start

-- what it answers for an area of `room` bytes
abbrev pub answer_of : Search → ℕ → ℕ → Answer FaultFigures
answer_of s set room =
    asks (room_questions (first_of s set) room)
    (witness_figures (λ q. get_or s.outputs.now q 0) (monitor_in s) (first_of s set))

-- what all fault sets of a search share: an output for each state, a square of pair distances by the pairs that it has
-- at 0, in which the looks of the test are enough, and the layers
pub record Posed (s : Search) : Type 0 where
  pub outputs : length s.outputs.now ≡ s.table.now.graph.states
  pub squared : Squared (automaton_in s) (apart_at_once s.square.now) s.square.now
  pub suited : Suited s.test s.table.now.graph.states s.square.now
  pub explored : Explored state_limit (automaton_in s) s.table.now.start s.layers.count s.layers.order s.layers.depths

-- what the search of one set has found: the layers, the costs at the states visited, and the least total
pub record Searched (limit : ℕ) (g : Automaton) (start set : ℕ) (square : List ℕ) (layers : Layers) (costs : Costs)
    : Type 0 where
  pub explored : Explored limit g start layers.count layers.order layers.depths
  pub costed : Costed limit g square (OfSet set g.symbols) layers.order layers.depths costs.visited costs.costs
      costs.total
  pub enough : Enough layers.order layers.depths layers.count costs.visited costs.total

-- the same where there is a witness, and room for it
pub record Ready (s : Search) (set : ℕ) (costs : Costs) (room : ℕ) : Type 0 where
  pub posed : Posed s
  pub searched : Searched state_limit (automaton_in s) s.table.now.start set s.square.now s.layers costs
  pub some : costs.total < never
  pub fits : costs.total ≤ room

-- what the search hands out of the series s
pub record Makes (g : Automaton) (start : ℕ) (s : Series) (h : Harm) : Type 0 where
  pub before : h.before ≡ length s.before
  pub fault : step_for h.fault ≡ s.fault
  pub ranged : Ranged g.symbols h.fault
  pub sent : h.ends.sent ≡ run g start (sent_trace s)
  pub received : h.ends.received ≡ run g start (received_trace s)

-- the sent trace of the first series went into the first places of an area
abbrev pub SentInto : Option Series → List ℕ → List ℕ → Type 0
SentInto first before after = (s : Series) → first ≡ some s → after ≡ sets before 0 (sent_trace s)
