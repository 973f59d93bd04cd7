-- From the square and the outputs that the search goes by to the readings of the table.
use mathlib.Core.Path.{◌≡◌, refl, ap, ◌∙◌}
use mathlib.Core.List.{List}
use mathlib.Core.Option.{Option, none, some}
use Prim.Native.Nat.{ℕ, ◌<◌}
use lib.ListN.{get_or}
use Rattle.theory.specs.Automaton.{Automaton, run}
use Rattle.theory.specs.Monitor.{Monitor, WellFormed, reading, state_limit}
use Rattle.theory.specs.Faults.{steps}
use Rattle.theory.specs.Answer.{Answer, asks, written}
use Rattle.theory.specs.Series.{Series, sent_trace, received_trace}
use Rattle.theory.specs.Distance.{faults_of}
use Rattle.theory.proofs.Reach.{run_in}
use Rattle.theory.proofs.Faults.{steps_good, steps_rise}
use Rattle.theory.proofs.Witness.{harmful_same, first_harms, sent_trace_lem, received_trace_lem}
use Rattle.square.specs.Square.{Squared, passing, apart_at_once}
use Rattle.square.proofs.Path.{at_once}
use Rattle.witness.specs.declared.search.Search.{Search}
use Rattle.witness.specs.Figures.{FaultFigures, witness_figures, witness_trace, room_questions, ends_by, first_by, figures_by}
use Rattle.witness.specs.Search.{monitor_in, automaton_in, first_of, answer_of}

-- the outputs of the search are what every state reads, and the square has at 0 what passes the test
module _ (s : Search) (squared : Squared (automaton_in s) (passing s.test s.outputs.now) s.square.now) (d set : ℕ)
    (read : (q : ℕ) → q < s.table.now.graph.states → get_or s.outputs.now q 0 ≡ reading (monitor_in s) d q) where
  abbrev m : Monitor
  m = monitor_in s

  abbrev g : Automaton
  g = automaton_in s

  well : WellFormed state_limit m
  well = s.table.now.sound.well_formed

  first_same : first_of s set ≡ first_by s.test m d set
  first_same =
      harmful_same g (apart_at_once s.square.now) (ends_by s.test m d) (steps set g.symbols) well.closed (steps_good g set)
      (λ p q lp lq. at_once squared p q lp lq ∙ rw (read p lp, read q lq)) m.start well.start_in

  figures_same : witness_figures (λ q. get_or s.outputs.now q 0) m (first_by s.test m d set) ≡ figures_by s.test m d set
  figures_same = go (first_by s.test m d set) refl
    where
      go : (o : Option Series) → first_by s.test m d set ≡ o → witness_figures (λ q. get_or s.outputs.now q 0) m o ≡ witness_figures (reading m d) m o
      go none e = refl
      go (some z) e =
          let v = (first_harms g (ends_by s.test m d) (faults_of m set) well.closed (steps_good g set) m.start well.start_in
          (steps_rise set g.symbols) z e).harm.valid in
          rw (
            read (run g m.start (sent_trace z))
                (run_in well.closed m.start (sent_trace z) well.start_in (sent_trace_lem g (steps set g.symbols) (steps_good g set) z v)),
            read (run g m.start (received_trace z))
                (run_in well.closed m.start (received_trace z) well.start_in (received_trace_lem g (steps set g.symbols) (steps_good g set) z v)),
          )

  pub search_answer : (room : ℕ) {r : Answer FaultFigures} → r ≡ answer_of s set room
      → r ≡ asks (room_questions (first_by s.test m d set) room) (figures_by s.test m d set)
  search_answer room e =
      e
      ∙ ap (λ (o : Option Series). asks (room_questions o room) (witness_figures (λ q. get_or s.outputs.now q 0) m o)) first_same
      ∙ ap (asks (room_questions (first_by s.test m d set) room)) figures_same

  pub search_area : (r : Answer FaultFigures) (area : List ℕ) {after : List ℕ} → after ≡ written r (witness_trace (first_of s set)) area
      → after ≡ written r (witness_trace (first_by s.test m d set)) area
  search_area r area e = e ∙ ap (λ (o : Option Series). written r (witness_trace o) area) first_same
