-- The area that the card lends itself holds every witness: question 13 is answered yes.
use mathlib.Core.Path.{◌≡◌, refl}
use mathlib.Core.Option.{Option, none, some}
use Prim.Native.Nat.{ℕ, ◌≤◌, zero-le}
use native.Mathlib.Omega.{arith}
use lib.ListN.{length}
use borrow.Author.Tests.{le-leb}
use Rattle.theory.specs.Monitor.{Monitor, WellFormed}
use Rattle.theory.specs.Answer.{answered, asks}
use Rattle.theory.specs.Series.{Series, sent_trace}
use Rattle.theory.specs.Distance.{differ, faults_of}
use Rattle.theory.specs.Computed.{horizon, first_witness}
use Rattle.theory.proofs.Faults.{steps_good, steps_rise}
use Rattle.theory.proofs.Witness.{first_harms}
use Rattle.witness.specs.Figures.{room_questions}

pub room_enough : (limit : ℕ) (m : Monitor) → WellFormed limit m → (d set room : ℕ) → horizon m.automaton.states ≤ room → {A : Type 0} (values : A)
    → asks (room_questions (first_witness m d set) room) values ≡ answered values
room_enough limit m w d set room large values = go (first_witness m d set) refl
  where
    go : (o : Option Series) → first_witness m d set ≡ o → asks (room_questions o room) values ≡ answered values
    go none e = rw (le-leb 0 room zero-le)
    go (some s) e =
        let g = m.automaton in
        let l = (first_harms g (differ m d) (faults_of m set) w.closed (steps_good g set) m.start w.start_in (steps_rise set g.symbols) s e).within in
        rw (le-leb (length (sent_trace s)) room (omega (arith, l, large)))
