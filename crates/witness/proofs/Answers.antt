-- The answer for one fault set, under each outcome of the search.
use mathlib.Core.Path.{◌≡◌, refl, sym, ap, ◌∙◌}
use mathlib.Core.Bool.{Bool}
use mathlib.Core.List.{List}
use mathlib.Core.Logic.{⊎_elim}
use mathlib.Core.Option.{Option, none, some}
use Prim.Native.Nat.{ℕ, ◌+◌, ◌≤◌, ◌<◌, zero-le}
use native.Mathlib.Omega.{arith}
use lib.ListN.{length}
use lib.Seq.{sets, sets-eq}
use borrow.Author.Tests.{le-leb, lt-leb}
use Rattle.theory.specs.Automaton.{Automaton, Closed}
use Rattle.theory.specs.Monitor.{Monitor}
use Rattle.theory.specs.Faults.{steps}
use Rattle.theory.specs.Answer.{Answer, refused, answered, asks, written}
use Rattle.theory.specs.Series.{Series, sent_trace}
use Rattle.theory.specs.Computed.{horizon, first_harmful}
use Rattle.theory.proofs.Below.{lt_or_le}
use Rattle.theory.proofs.Faults.{steps_good, steps_rise}
use Rattle.theory.proofs.Witness.{none_harms, first_harms, first_least}
use Rattle.square.specs.Square.{never, Squared}
use Rattle.layers.specs.declared.Layers.{Layers}
use Rattle.totals.specs.declared.Costs.{Costs}
use Rattle.witness.specs.Figures.{WitnessFigures, FaultFigures, series_figures, witness_figures, witness_trace, room_questions}
use Rattle.witness.specs.Search.{Searched}
use Rattle.witness.proofs.Least.{total_least, total_found, search_none}

module _ {limit : ℕ} {g : Automaton} {ends : ℕ → ℕ → Bool} {start set : ℕ} {square : List ℕ} {layers : Layers} {costs : Costs} (closed : Closed g)
    (squared : Squared g ends square) (start_in : start < g.states) (h : Searched limit g start set square layers costs) where
  abbrev pub first : Option Series
  first = first_harmful g ends (steps set g.symbols) start

  abbrev total : ℕ
  total = costs.total

  pub is_number : (total ≡ never → ⊥) → total < never
  is_number not = ⊎_elim (λ l. l) (λ l. absurd (not (omega (arith, h.costed.most, l)))) (lt_or_le total never)

  -- where the total is a number, it is the length of the first harmful series
  pub search_some : total < never → (s : Series) × (first ≡ some s) × (length (sent_trace s) ≡ total)
  search_some low = go first refl
    where
      go : (o : Option Series) → first ≡ o → (s : Series) × (first ≡ some s) × (length (sent_trace s) ≡ total)
      go none e =
          let f = total_found closed squared start_in h low in
          absurd (none_harms g ends (steps set g.symbols) closed (steps_good g set) start start_in e f.0 f.1)
      go (some s) e =
          let f = total_found closed squared start_in h low in
          let r = first_harms g ends (steps set g.symbols) closed (steps_good g set) start start_in (steps_rise set g.symbols) s e in
          let x = first_least g ends (steps set g.symbols) closed (steps_good g set) start start_in (steps_rise set g.symbols) r f.0 f.1 in
          let y = total_least closed squared start_in h s r.harm in
          let z = f.2 in
          (s, e, omega (arith, x, y, z))

  module _ (read : ℕ → ℕ) (m : Monitor) (room : ℕ) where
    abbrev answer : Answer FaultFigures
    answer = asks (room_questions first room) (witness_figures read m first)

    pub says_immune : g.states ≤ limit → horizon limit < never → never ≤ total → answered none ≡ answer
    says_immune small short e = rw (search_none closed squared start_in h small short e, le-leb 0 room zero-le)

    pub says_no_room : total < never → room < total → refused 13 0 ≡ answer
    says_no_room low l =
        let s = search_some low in
        let z = s.2 in
        rw (s.1, lt-leb (length (sent_trace s.0)) room (omega (arith, z, l)))

    pub says_vulnerable : {values : WitnessFigures} → total < never → total ≤ room → ((s : Series) → first ≡ some s → values ≡ series_figures read m s)
        → answered (some values) ≡ answer
    says_vulnerable low l are =
        let s = search_some low in
        let z = s.2 in
        ap (λ (w : WitnessFigures). answered (some w)) (are s.0 s.1) ∙ sym (rw (s.1, le-leb (length (sent_trace s.0)) room (omega (arith, z, l))))

  pub immune_keeps : (area : List ℕ) → g.states ≤ limit → horizon limit < never → never ≤ total
      → area ≡ written {A = FaultFigures} (answered none) (witness_trace first) area
  immune_keeps area small short e = rw (search_none closed squared start_in h small short e)

  pub witness_fills : {A : Type 0} (values : A) (area : List ℕ) {after : List ℕ} → total < never → total ≤ length area
      → ((s : Series) → first ≡ some s → after ≡ sets area 0 (sent_trace s)) → after ≡ written (answered values) (witness_trace first) area
  witness_fills values area low l is =
      let s = search_some low in
      let z = s.2 in
      let zero : 0 + length (sent_trace s.0) ≡ length (sent_trace s.0) = omega arith in
      is s.0 s.1 ∙ sets-eq (sent_trace s.0) area 0 (omega (arith, z, l)) ∙ rw (s.1, zero)
