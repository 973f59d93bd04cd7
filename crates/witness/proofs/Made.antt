-- The witness as it is made: the way to the fault, the fault step, and the path after it are the first harmful series.
use mathlib.Core.Path.{◌≡◌, refl, sym, ap, ◌∙◌, subst}
use mathlib.Core.Bool.{Bool}
use mathlib.Core.List.{List, [], ◌∷◌, ◌++◌}
use mathlib.Core.Option.{some}
use Prim.Native.Nat.{ℕ, suc, ◌+◌, ◌≤◌, ◌<◌}
use native.Mathlib.Nat.{add-zero, add-suc, suc-add}
use native.Mathlib.Omega.{arith}
use lib.ListN.{length, get_or, set}
use lib.Seq.{sets, length-sets}
use borrow.Author.Tests.{eqb-true}
use Rattle.theory.specs.Lists.{find}
use Rattle.theory.specs.Automaton.{Automaton, run}
use Rattle.theory.specs.Faults.{FaultStep, steps}
use Rattle.theory.specs.Monitor.{state_limit}
use Rattle.theory.specs.Series.{Series, sent_trace, received_trace}
use Rattle.theory.specs.Computed.{first_harmful}
use Rattle.theory.proofs.Lists.{find_in, some_same}
use Rattle.theory.proofs.Witness.{run_parts}
use Rattle.square.specs.Square.{never, entry, apart_at_once, path}
use Rattle.square.specs.declared.Pair.{Pair}
use Rattle.faults.specs.declared.Fault.{Fault}
use Rattle.faults.specs.Steps.{step_for, Ranged, cost_of, costing}
use Rattle.faults.proofs.AtMostTwo.{count_is}
use Rattle.totals.specs.declared.Costs.{Costs}
use Rattle.totals.specs.Totals.{way_to_fault, OnTheWay}
use Rattle.witness.specs.declared.search.Search.{Search}
use Rattle.witness.specs.Search.{automaton_in, Ready, Makes}
use Rattle.witness.proofs.Least.{cost_sum, start_left, search_finds}

pub sets_append : (l : List ℕ) (i : ℕ) (xs ys : List ℕ) → sets (sets l i xs) (i + length xs) ys ≡ sets l i (xs ++ ys)
sets_append l i [] ys = ap (λ (j : ℕ). sets l j ys) (add-zero i)
sets_append l i (x ∷ xs) ys =
    ap (λ (j : ℕ). sets (sets (set l i x) (suc i) xs) j ys) (add-suc i (length xs) ∙ sym (suc-add i (length xs))) ∙ sets_append (set l i x) (suc i) xs ys

-- `count` symbols lead from the start to `state`, where the fault is the first that costs what the state does
pub record Chosen (g : Automaton) (set : ℕ) (square costs v : List ℕ) (start state count : ℕ) (fault : Fault) : Type 0 where
  pub start_in : start < g.states
  pub low : get_or v start 0 < never
  pub is_count : count ≡ length (way_to_fault g v costs start)
  pub is_state : state ≡ run g start (way_to_fault g v costs start)
  pub is_cost : count + get_or costs state 0 ≡ get_or v start 0
  pub picked : find (costing g square state (get_or costs state 0)) (steps set g.symbols) ≡ some (step_for fault)
  pub ranged : Ranged g.symbols fault

-- the first fault with the cost of the state where the way ends makes the first harmful series
abbrev pub Finds : Automaton → (ℕ → ℕ → Bool) → ℕ → List ℕ → List ℕ → List ℕ → ℕ → Type 0
Finds g ends set square costs v start =
    let q = run g start (way_to_fault g v costs start) in
    (f : FaultStep) → find (costing g square q (get_or costs q 0)) (steps set g.symbols) ≡ some f
    → first_harmful g ends (steps set g.symbols) start
    ≡ some
    (record {
      before = way_to_fault g v costs start;
      fault = f;
      after = path g square (entry square (run g q f.sent) (run g q f.received)) (run g q f.sent) (run g q f.received);
    })

module _ {g : Automaton} (ends : ℕ → ℕ → Bool) {set : ℕ} {square costs v : List ℕ} {start state count : ℕ} {fault : Fault}
    (h : Finds g ends set square costs v start)
    (k : Chosen g set square costs v start state count fault) where
  abbrev way : List ℕ
  way = way_to_fault g v costs start

  abbrev step : FaultStep
  step = step_for fault

  abbrev apart : ℕ
  apart = entry square (run g state step.sent) (run g state step.received)

  -- how many symbols the fault covers
  covers : fault.sent.count ≡ length step.sent
  covers = count_is fault.sent k.ranged.sent_in.count_most

  -- what is covered and what is still to be sent are the cost
  made_cost : length step.sent + apart ≡ get_or costs state 0
  made_cost =
      let f = find_in (costing g square state (get_or costs state 0)) (steps set g.symbols) k.picked in
      cost_sum (length step.sent) apart (get_or costs state 0) (eqb-true (cost_of g square state step) (get_or costs state 0) f.1)
      (omega (arith, k.is_cost, k.low))

  made_sum : count + (length step.sent + apart) ≡ get_or v start 0
  made_sum = (let x = made_cost in omega (arith, x, k.is_cost))

  made_low : apart < never
  made_low = (let x = made_sum in omega (arith, x, k.low))

  -- the trace fits where the total does
  pub made_fits : (area : List ℕ) {one : List ℕ} → one ≡ sets area 0 way → get_or v start 0 ≤ length area → count + length step.sent ≤ length one
  made_fits area e l = (let x = made_sum in let y = ap length e ∙ length-sets area 0 way in omega (arith, x, y, l))

  pub made_fits_on : (area : List ℕ) {one two : List ℕ} {p q : ℕ} → one ≡ sets area 0 way → two ≡ sets one count step.sent
      → p ≡ run g state step.sent → q ≡ run g state step.received → get_or v start 0 ≤ length area
      → count + fault.sent.count + entry square p q ≤ length two
  made_fits_on area {one} e₁ e₂ ep eq l =
      let x = made_sum in
      let y = ap length e₂ ∙ length-sets one count step.sent ∙ ap length e₁ ∙ length-sets area 0 way in
      rw (ep, eq) (omega (arith, x, y, covers, l))

  pub made_apart : {p q : ℕ} → p ≡ run g state step.sent → q ≡ run g state step.received → entry square p q < never
  made_apart ep eq = rw (ep, eq) made_low

  abbrev pub made : Series
  made = record { before = way; fault = step; after = path g square apart (run g state step.sent) (run g state step.received) }

  made_first : first_harmful g ends (steps set g.symbols) start ≡ some made
  made_first =
      subst (λ (q : ℕ). find (costing g square q (get_or costs q 0)) (steps set g.symbols) ≡ some step
      → first_harmful g ends (steps set g.symbols) start ≡ some
      (record {
        before = way;
        fault = step;
        after = path g square (entry square (run g q step.sent) (run g q step.received)) (run g q step.sent) (run g q step.received);
      }))
      (sym k.is_state)
      (h step) k.picked

  -- the first series is the one made
  pub made_is : {s : Series} → first_harmful g ends (steps set g.symbols) start ≡ some s → made ≡ s
  made_is e = some_same (sym made_first ∙ e)

  -- the three parts written one after the other
  pub made_written : {s : Series} (area : List ℕ) {one two three : List ℕ} {p q : ℕ} → first_harmful g ends (steps set g.symbols) start ≡ some s
      → one ≡ sets area 0 way → two ≡ sets one count step.sent
      → p ≡ run g state step.sent → q ≡ run g state step.received → three ≡ sets two (count + fault.sent.count) (path g square (entry square p q) p q)
      → three ≡ sets area 0 (sent_trace s)
  made_written {s} area {two = two} {p = p} {q = q} e h₁ h₂ ep eq h₃ =
      h₃
      ∙ ap (λ (j : ℕ). sets two (count + j) (path g square (entry square p q) p q)) covers
      ∙ rw (ep, eq, h₂, h₁, k.is_count)
      (sets_append (sets area 0 way) (length way) step.sent made.after
      ∙ ap (λ (j : ℕ). sets (sets area 0 way) j (step.sent ++ made.after)) (let z : length way ≡ 0 + length way = omega arith in z)
      ∙ sets_append area 0 way (step.sent ++ made.after))
      ∙ ap (λ (t : Series). sets area 0 (sent_trace t)) (made_is e)

  -- what is handed out is the first series
  pub made_makes : {s : Series} {e : Pair} {p q : ℕ} → first_harmful g ends (steps set g.symbols) start ≡ some s
      → p ≡ run g state step.sent → q ≡ run g state step.received
      → e.sent ≡ run g p (path g square (entry square p q) p q) → e.received ≡ run g q (path g square (entry square p q) p q)
      → Makes g start s (record { before = count; fault = fault; ends = e })
  made_makes {e = e} i ep eq ex ey =
      subst (λ (z : Series). Makes g start z (record { before = count; fault = fault; ends = e })) (made_is i)
      (record {
        before = k.is_count;
        fault = refl;
        ranged = k.ranged;
        sent = rw (ex, ep, eq) sent;
        received = rw (ey, ep, eq) received;
      })
    where
      sent : run g (run g state step.sent) made.after ≡ run g start (sent_trace made)
      sent = ap (λ (r : ℕ). run g (run g r step.sent) made.after) k.is_state ∙ sym (run_parts g start way step.sent made.after)

      received : run g (run g state step.received) made.after ≡ run g start (received_trace made)
      received = ap (λ (r : ℕ). run g (run g r step.received) made.after) k.is_state ∙ sym (run_parts g start way step.received made.after)

-- ---- what a search has found, with what is left on the way

module _ {s : Search} {set : ℕ} {costs : Costs} {room : ℕ} (r : Ready s set costs room)
    {v : List ℕ} (way : OnTheWay state_limit (automaton_in s) s.layers.order s.layers.depths costs.costs costs.total 0 costs.visited v) where
  pub ready_left : get_or v s.table.now.start 0 ≡ costs.total
  ready_left =
      let w = s.table.now.sound.well_formed in
      start_left w.closed r.posed.squared w.start_in r.searched r.some way

  pub ready_finds : Finds (automaton_in s) (apart_at_once s.square.now) set s.square.now costs.costs v s.table.now.start
  ready_finds =
      let w = s.table.now.sound.well_formed in
      search_finds w.closed r.posed.squared w.start_in r.searched r.some way
