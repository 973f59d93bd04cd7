-- The columns of a card go by the marks, each from an area that every witness fits.
use mathlib.Core.Path.{◌≡◌, ◌∙◌}
use Prim.Native.Nat.{ℕ, ◌≤◌, ◌<◌}
use lib.Bits.{bit_or}
use lib.ListN.{get_or}
use Rattle.std.proofs.Common.{rules}
use Rattle.std.specs.Prelude.{Result, Ok, Err, IsOk, Option as Maybe}
use Rattle.theory.specs.Monitor.{Monitor, reading, state_limit}
use Rattle.theory.specs.Answer.{Answer, answered}
use Rattle.theory.specs.Computed.{horizon}
use Rattle.basics.specs.declared.refusal.Refusal.{Refusal}
use Rattle.faults.specs.declared.Kind.{Kind}
use Rattle.faults.specs.Kinds.{rank_of, bit_of}
use Rattle.faults.proofs.ByKind.{bit_is}
use Rattle.witness.specs.declared.search.Search.{Search}
use Rattle.witness.specs.declared.Witness.{Witness}
use Rattle.witness.specs.Figures.{FaultFigures, found_values, outcome}
use Rattle.witness.specs.Search.{monitor_in, answer_of}
use Rattle.witness.proofs.Tables.{search_answer}
use Rattle.immunity.specs.ByMarks.{ByMarks}
use Rattle.immunity.specs.Findings.{table_figures, column_figures}
use Rattle.immunity.proofs.Room.{room_enough}

module _ {s : Search} (by : ByMarks s) where
  abbrev table : Monitor
  table = monitor_in s

  -- the outputs are what every state reads under reading 3
  marks_read : (q : ℕ) → q < table.automaton.states → get_or s.outputs.now q 0 ≡ reading table 3 q
  unfolding reading
  marks_read q l = rw by.marks

  -- the outcome for one fault set, from an area that every witness fits
  pub marks_answer : (set room : ℕ) → horizon table.automaton.states ≤ room
      → {r : Answer FaultFigures} → r ≡ answer_of s set room → r ≡ answered (table_figures table 3 set)
  marks_answer set room large e =
      rw by.differ at (search_answer s by.squared 3 set marks_read room e)
      ∙ room_enough state_limit table s.table.now.sound.well_formed 3 set room large (table_figures table 3 set)

-- a set built by adding one kind to the empty set
pub alone : (m : Monitor) (kind : Kind) {none one : ℕ} → none ≡ 0 → one ≡ bit_or none (bit_of kind)
    → table_figures m 3 one ≡ column_figures (rank_of kind) m
alone m kind e₀ e₁ = rw (e₁, e₀, bit_is kind)

-- what is answered is no refusal, and its values are those found
pub outcome_ok : (r : Result (Maybe Witness) Refusal) (values : FaultFigures) → outcome r ≡ answered values → IsOk r
outcome_ok (Ok w) values e = search rules
outcome_ok (Err x) values e = absurd (cc)

pub outcome_values : (r : Result (Maybe Witness) Refusal) (values : FaultFigures) (w : Maybe Witness) → r ≡ Ok w → outcome r ≡ answered values
    → found_values w ≡ values
outcome_values r values w is e =
    let same : answered (found_values w) ≡ answered values = rw is at e in
    cc
