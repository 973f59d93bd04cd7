-- What the layers, the square, the costs and what is left on the way say together: the least total is the length of the first harmful series from the start,
-- and the way by the lowest symbols leads to its fault.
use mathlib.Core.Path.{◌≡◌, refl, sym, ap, ◌∙◌, subst}
use mathlib.Core.Bool.{Bool, true, false, cond}
use mathlib.Core.List.{List, [], ◌∷◌, ◌++◌, map, flat_map}
use mathlib.Core.Logic.{◌⊎◌, inl, inr, ⊎_elim}
use mathlib.Core.Option.{none, some}
use Prim.Native.Nat.{ℕ, zero, suc, ◌+◌, ◌-◌, ◌*◌, ◌≤◌, ◌<◌, zero-le}
use native.Mathlib.Nat.{mul-le-mul}
use native.Mathlib.Omega.{arith}
use lib.Dec.{eqb}
use lib.ListN.{length, length-append, get_or}
use borrow.Author.Tests.{eqb-true, eqb-false, eq-eqb, le-leb}
use Rattle.theory.specs.Lists.{In, find, each}
use Rattle.theory.specs.Automaton.{Automaton, Closed, Trace, run}
use Rattle.theory.specs.Pairs.{Tells}
use Rattle.theory.specs.Faults.{FaultStep, steps}
use Rattle.theory.specs.Series.{Series, sent_trace, harmful, words, struck, plain, series}
use Rattle.theory.specs.Computed.{horizon, first_harmful}
use Rattle.theory.proofs.Below.{clash, not_clash, lt_or_le, first_below}
use Rattle.theory.proofs.Lists.{find_none, find_in, find_here, find_later, find_each, find_map, find_map_none, find_flat_map, find_flat_map_none, find_same}
use Rattle.theory.proofs.Reach.{run_in, run_append, trace_append}
use Rattle.theory.proofs.Faults.{Good, steps_good}
use Rattle.theory.proofs.Series.{begin, series_in, struck_is}
use Rattle.theory.proofs.Witness.{Harm, harm_tells, tells_harm, sent_length, near, found_first, found_none}
use Rattle.square.specs.Square.{never, entry, Squared, path}
use Rattle.square.proofs.Path.{noted_least, apart_by, path_first}
use Rattle.faults.specs.Steps.{plus, cost_of}
use Rattle.layers.specs.declared.Layers.{Layers}
use Rattle.layers.specs.Layers.{Led, By}
use Rattle.layers.proofs.Queue.{led_start, led_on}
use Rattle.layers.proofs.Depth.{explored_by}
use Rattle.totals.specs.declared.Costs.{Costs}
use Rattle.totals.specs.Totals.{onward, approach, LeadsOn, OnTheWay}
use Rattle.totals.proofs.Way.{onward_at, onward_leads}
use Rattle.witness.specs.Search.{Searched}

plus_at_most : (l e : ℕ) → plus l e ≤ l + e
plus_at_most l e = omega arith

plus_some : (l e : ℕ) → 1 ≤ l → 1 ≤ plus l e
plus_some l e h = omega (arith, h)

-- a cost below never is the sum
pub cost_sum : (l e c : ℕ) → plus l e ≡ c → c < never → l + e ≡ c
cost_sum l e c h s = omega arith

module _ {limit : ℕ} {g : Automaton} {ends : ℕ → ℕ → Bool} {start set : ℕ} {square : List ℕ} {layers : Layers} {costs : Costs} (closed : Closed g)
    (squared : Squared g ends square) (start_in : start < g.states) (seen : Searched limit g start set square layers costs) where
  abbrev order : List ℕ
  order = layers.order

  abbrev depths : List ℕ
  depths = layers.depths

  -- the costs entered at the states
  abbrev entered : List ℕ
  entered = costs.costs

  abbrev faults : List FaultStep
  faults = steps set g.symbols

  abbrev cost : ℕ → ℕ
  cost p = get_or entered p 0

  abbrev depth : ℕ → ℕ
  depth p = get_or depths p 0

  abbrev total : ℕ
  total = costs.total

  good : (s : FaultStep) → In s faults → Good g s
  good = steps_good g set

  -- ---- costs

  -- the pair of states after a fault step at p
  abbrev gap : ℕ → FaultStep → ℕ
  gap p s = entry square (run g p s.sent) (run g p s.received)

  sent_in : (p : ℕ) (s : FaultStep) → p < g.states → In s faults → run g p s.sent < g.states
  sent_in p s lp i = run_in closed p s.sent lp (good s i).sent_trace_lem

  received_in : (p : ℕ) (s : FaultStep) → p < g.states → In s faults → run g p s.received < g.states
  received_in p s lp i = run_in closed p s.received lp (good s i).received_trace_lem

  -- a fault step and what tells its two states apart are together no shorter than the step's cost
  step_least : (p : ℕ) (s : FaultStep) (w : List ℕ) → p < g.states → In s faults → Tells g ends (run g p s.sent) (run g p s.received) w
      → cost_of g square p s ≤ length s.sent + length w
  step_least p s w lp i t =
      let e = noted_least (squared.noted (run g p s.sent) (run g p s.received) (sent_in p s lp i) (received_in p s lp i)) w t in
      let u = plus_at_most (length s.sent) (gap p s) in
      omega (arith, e, u)

  cost_some : (p : ℕ) (s : FaultStep) → In s faults → 1 ≤ cost_of g square p s
  cost_some p s i = plus_some (length s.sent) (gap p s) (good s i).covers

  -- ---- the least total

  -- the place of a state that is not as deep as the total
  visited_at : (p : ℕ) → p < g.states → depth p < limit → depth p < total → (i : ℕ) × (i < costs.visited) × (get_or order i 0 ≡ p)
  visited_at p lp found low =
      let at = seen.explored.queue.listed p lp found in
      (at.0, seen.enough.all at.0 at.1 (subst (λ (q : ℕ). depth q < total) (sym at.2) low), at.2)

  above_at : (p : ℕ) → p < g.states → depth p < limit → depth p < total → total ≤ depth p + cost p
  above_at p lp found low =
      let at = visited_at p lp found low in
      subst (λ (q : ℕ). total ≤ depth q + cost q) at.2 (seen.costed.above at.0 at.1)

  least_at : (p : ℕ) (s : FaultStep) → p < g.states → depth p < limit → depth p < total → In s faults
      → (cost p ≤ cost_of g square p s) ⊎ (total < depth p + cost_of g square p s)
  least_at p s lp found low i =
      let at = visited_at p lp found low in
      subst (λ (q : ℕ). (cost q ≤ cost_of g square q s) ⊎ (total < depth q + cost_of g square q s)) at.2 (seen.costed.least at.0 at.1 s i)

  -- no symbols and fault step after them make less
  least_total : (w : List ℕ) (s : FaultStep) → Trace g w → In s faults → total ≤ length w + cost_of g square (run g start w) s
  least_total w s t i =
      let p = run g start w in
      let lp = run_in closed start w start_in t in
      let by = explored_by closed seen.explored start_in w t in
      ⊎_elim
      (λ (l : depth p < total).
      let a = above_at p lp by.is_found l in
      ⊎_elim (λ m. omega (arith, a, m, by.near)) (λ m. omega (arith, m, by.near)) (least_at p s lp by.is_found l i))
      (λ (l : total ≤ depth p). omega (arith, l, by.near))
      (lt_or_le (depth p) total)

  -- nor do symbols that lead to p and a harmful series from there
  series_least : (p d : ℕ) (s : Series) → Led g start p d → Harm g ends faults p s → total ≤ d + length (sent_trace s)
  series_least p d s led h =
      let w = led.word in
      let v = s.before in
      let q = run g p v in
      let lp : p < g.states = subst (λ (x : ℕ). x < g.states) led.arrives (run_in closed start w start_in led.trace) in
      let to : run g start (w ++ v) ≡ q = run_append g start w v ∙ ap (λ (x : ℕ). run g x v) led.arrives in
      let a = subst (λ (x : ℕ). total ≤ length (w ++ v) + cost_of g square x s.fault) to
      (least_total (w ++ v) s.fault (trace_append g w v led.trace h.valid.before_trace) h.valid.known) in
      let b = step_least q s.fault s.after (run_in closed p v lp h.valid.before_trace) h.valid.known (harm_tells g ends faults p s h) in
      let e = length-append w v in
      omega (arith, a, b, e, led.long, sent_length s)

  -- no harmful series is shorter than the total
  pub total_least : (s : Series) → Harm g ends faults start s → total ≤ length (sent_trace s)
  total_least s h = (let a = series_least start 0 s (led_start g start) h in omega (arith, a))

  -- and some harmful series has its length
  pub total_found : total < never → (s : Series) × Harm g ends faults start s × (length (sent_trace s) ≡ total)
  total_found low =
      let m = seen.costed.makes low in
      let q = m.state in
      let f = m.step in
      let led = seen.explored.reached q m.inside m.reached in
      let small : cost_of g square q f < never = omega (arith, m.sum, low) in
      let sum = cost_sum (length f.sent) (gap q f) (cost_of g square q f) refl small in
      let w = (squared.noted (run g q f.sent) (run g q f.received) (sent_in q f m.inside m.of) (received_in q f m.inside m.of)).found
      (omega (arith, sum, small)) in
      let s : Series = record { before = led.word; fault = f; after = w.word } in
      let tells = subst (λ (x : ℕ). Tells g ends (run g x f.sent) (run g x f.received) w.word) (sym led.arrives) w.has in
      (s, tells_harm g ends faults start s led.trace m.of tells, omega (arith, sent_length s, sum, w.long, led.long, m.sum))

  pub total_within : total < never → total ≤ horizon g.states
  total_within l =
      let f = total_found l in
      let t = near g ends faults closed good start start_in f.0 f.1 in
      let x = total_least t.0 t.1 in
      omega (arith, x, t.2)

  -- a harmful series within the limit is shorter than never
  module _ (small : g.states ≤ limit) (short : horizon limit < never) where
    near_never : horizon g.states < never
    near_never = (let z : g.states * g.states ≤ limit * limit = mul-le-mul small small in omega (arith, z))

    pub search_none : never ≤ total → first_harmful g ends faults start ≡ none
    search_none e =
        found_none g ends faults closed good start start_in
        (λ s h.
        let t = near g ends faults closed good start start_in s h in
        let x = total_least t.0 t.1 in
        let y = near_never in
        omega (arith, x, y, t.2, e))

  -- ---- states on the way

  -- some symbols lead from the start to p, and l more make the total
  pub record Live (p l : ℕ) : Type 0 where
    pub sent : ℕ
    pub led : Led g start p sent
    pub sum : sent + l ≡ total

  live_start : Live start total
  live_start = record { sent = 0; led = led_start g start; sum = omega arith }

  live_on : {p l a : ℕ} → Live p (suc l) → a < g.symbols → Live (g.next p a) l
  live_on h la = record { sent = h.sent + 1; led = led_on g h.led la refl; sum = omega (arith, h.sum) }

  live_in : {p l : ℕ} → Live p l → p < g.states
  live_in h = subst (λ (x : ℕ). x < g.states) h.led.arrives (run_in closed start h.led.word start_in h.led.trace)

  live_by : {p l : ℕ} (h : Live p l) → By limit depths h.sent p
  live_by {p} h =
      subst (λ (i : ℕ). By limit depths i p) h.led.long
      (subst (λ (x : ℕ). By limit depths (length h.led.word) x) h.led.arrives
      (explored_by closed seen.explored start_in h.led.word h.led.trace))

  -- no fault step there costs less than l
  live_least : {p l : ℕ} → Live p l → (s : FaultStep) → In s faults → l ≤ cost_of g square p s
  live_least {p} h s i =
      let a = subst (λ (x : ℕ). total ≤ length h.led.word + cost_of g square x s) h.led.arrives (least_total h.led.word s h.led.trace i) in
      omega (arith, a, h.led.long, h.sum)

  -- where a harmful series of l symbols begins at p, p is as deep as the symbols sent
  live_deep : {p l : ℕ} → Live p l → (s : Series) → Harm g ends faults p s → length (sent_trace s) ≡ l → depth p + l ≡ total
  live_deep {p} h s harm e =
      let by = live_by h in
      let a = series_least p (depth p) s (seen.explored.reached p (live_in h) by.is_found) harm in
      omega (arith, a, e, by.near, h.sum)

  -- a fault step that makes the total is the cheapest
  live_cost : {p l : ℕ} → Live p l → depth p + l ≡ total → (s : FaultStep) → In s faults → cost_of g square p s ≡ l → cost p ≡ l
  live_cost {p} {l} h deep s i e =
      let by = live_by h in
      let one = cost_some p s i in
      let low : depth p < total = omega (arith, one, e, deep) in
      let a = above_at p (live_in h) by.is_found low in
      ⊎_elim (λ m. omega (arith, m, a, e, deep)) (λ m. absurd (omega (arith, m, e, deep))) (least_at p s (live_in h) by.is_found low i)

  module _ {v : List ℕ} (low : total < never) (way : OnTheWay limit g order depths entered total 0 costs.visited v) where
    abbrev left : ℕ → ℕ
    left p = get_or v p 0

    -- where p leads on, it is on the way
    leads_left : {p l : ℕ} → Live p l → 1 ≤ l → depth p + l ≡ total → LeadsOn g v entered l p → left p ≡ l
    leads_left {p} {l} h few deep on =
        let at = visited_at p (live_in h) (live_by h).is_found (omega (arith, few, deep)) in
        subst (λ (q : ℕ). l + depth q ≡ total → LeadsOn g v entered l q → left q ≡ l) at.2 (way.complete at.0 l zero-le at.1) (omega (arith, deep)) on

    -- where a harmful series of l symbols begins, p is on the way
    on_way : (w : List ℕ) (f : FaultStep) (u : List ℕ) (p l : ℕ) → Live p l → Harm g ends faults p (record { before = w; fault = f; after = u })
        → length (sent_trace (record { before = w; fault = f; after = u })) ≡ l → left p ≡ l
    unfolding Trace run
    on_way [] f u p l h harm e =
        let known = harm.valid.known in
        let a = step_least p f u (live_in h) known (harm_tells g ends faults p (record { before = []; fault = f; after = u }) harm) in
        let b = live_least h f known in
        let c : cost_of g square p f ≡ l = omega (arith, a, b, e, sent_length (record { before = []; fault = f; after = u })) in
        let deep = live_deep h (record { before = []; fault = f; after = u }) harm e in
        let one = cost_some p f known in
        leads_left h (omega (arith, one, c)) deep (inl (live_cost h deep f known c))
    on_way (a ∷ w) f u p l h harm e =
        let rest : Series = record { before = w; fault = f; after = u } in
        let m : ℕ = length (sent_trace rest) in
        let is : l ≡ suc m = omega (arith, e) in
        let la = harm.valid.before_trace.0 in
        let inner : Harm g ends faults (g.next p a) rest = record {
          valid = record { before_trace = harm.valid.before_trace.1; known = harm.valid.known; after_trace = harm.valid.after_trace };
          harms = harm.harms;
        } in
        let there = on_way w f u (g.next p a) m (live_on (subst (Live p) is h) la) inner refl in
        let deep = live_deep h (record { before = a ∷ w; fault = f; after = u }) harm e in
        leads_left h (omega (arith, is)) deep (inr (m, is, onward_at g v m p a la there))

    -- the total is left at the start
    pub start_left : left start ≡ total
    start_left =
        let f = total_found low in
        let s = f.0 in
        on_way s.before s.fault s.after start total live_start f.1 f.2

    -- ---- the first harmful series

    -- from p, with the fault step f taken at the state that the way leads to
    abbrev pub made_of : ℕ → ℕ → FaultStep → Series
    made_of l p f = record {
      before = approach g v entered l p;
      fault = f;
      after = path g square (gap (run g p (approach g v entered l p)) f) (run g (run g p (approach g v entered l p)) f.sent)
          (run g (run g p (approach g v entered l p)) f.received);
    }

    -- a harmful series that begins with a fault step
    struck_harm : (p l : ℕ) (s : FaultStep) (u : Series) → In s faults → (j : In u (struck g.symbols l s)) → harmful g ends p u ≡ true
        → Harm g ends faults p (begin s (struck_is g l s u j).rest)
    unfolding Trace
    struck_harm p l s u i j h =
        let r = struck_is g l s u j in
        record {
          valid = record { before_trace = tt; known = i; after_trace = r.trace };
          harms = subst (λ (z : Series). harmful g ends p z ≡ true) r.is h;
        }

    -- it costs at least what the step does
    struck_cost : (p l : ℕ) (s : FaultStep) (u : Series) → p < g.states → In s faults → In u (struck g.symbols l s) → harmful g ends p u ≡ true
        → cost_of g square p s ≤ l
    unfolding run
    struck_cost p l s u lp i j h =
        let r = struck_is g l s u j in
        let x = step_least p s r.rest lp i (harm_tells g ends faults p (begin s r.rest) (struck_harm p l s u i j h)) in
        let y = r.long in
        omega (arith, x, y)

    -- a step that costs l begins a harmful series of length l, the first of which goes on by the path
    struck_first : (p l : ℕ) (f : FaultStep) → p < g.states → In f faults → cost_of g square p f ≡ l → l < never
        → find (harmful g ends p) (struck g.symbols l f) ≡ some (begin f (path g square (gap p f) (run g p f.sent) (run g p f.received)))
    struck_first p l f lp i e s =
        let sum : length f.sent + gap p f ≡ l = cost_sum (length f.sent) (gap p f) l e s in
        let rest : l - length f.sent ≡ gap p f = omega arith in
        let here = path_first closed squared (gap p f) (run g p f.sent) (run g p f.received) (sent_in p f lp i) (received_in p f lp i) refl
        (omega (arith, sum, s)) in
        rw (le-leb (length f.sent) l (omega (arith, sum)), rest)
        (find_map (harmful g ends p) (begin f) (words g.symbols (gap p f))
        (find_same (λ w. harmful g ends p (begin f w)) (apart_by g ends (run g p f.sent) (run g p f.received)) (words g.symbols (gap p f))
        (λ w _. same w) ∙ here))
      where
        same : (w : List ℕ) → harmful g ends p (begin f w) ≡ apart_by g ends (run g p f.sent) (run g p f.received) w
        same w = rw (run_append g p f.sent w, run_append g p f.received w)

    -- where the cost is what is left, the fault comes at once
    at_once : (p l : ℕ) (f : FaultStep) → Live p l → cost p ≡ l → l < never → find (λ s. eqb (cost_of g square p s) (cost p)) faults ≡ some f
        → find (harmful g ends p) (flat_map (struck g.symbols l) faults)
        ≡ some (begin f (path g square (gap p f) (run g p f.sent) (run g p f.received)))
    at_once p l f h e s chosen =
        let r = find_in (λ t. eqb (cost_of g square p t) (cost p)) faults chosen in
        find_flat_map (harmful g ends p) (λ t. eqb (cost_of g square p t) (cost p)) (struck g.symbols l) faults
        (λ t i no_hit. find_none (harmful g ends p) (struck g.symbols l t) (λ u j. not_clash (λ hit.
        let x = struck_cost p l t u (live_in h) i j hit in
        let y = live_least h t i in
        let z : cost_of g square p t ≡ cost p = omega (arith, x, y, e) in
        clash (eq-eqb (cost_of g square p t) (cost p) z) no_hit)))
        chosen
        (struck_first p l f (live_in h) r.0 (eqb-true (cost_of g square p f) (cost p) r.1 ∙ e) s)

    -- where it is not, no fault step at once is harmful
    not_at_once : (p l : ℕ) → Live p l → (cost p ≡ l → ⊥) → find (harmful g ends p) (flat_map (struck g.symbols l) faults) ≡ none
    not_at_once p l h ne =
        find_flat_map_none (harmful g ends p) (struck g.symbols l) faults
        (λ t i. find_none (harmful g ends p) (struck g.symbols l t) (λ u j. not_clash (λ hit.
        let r = struck_is g l t u j in
        let deep = live_deep h (begin t r.rest) (struck_harm p l t u i j hit) (length-append t.sent r.rest ∙ r.long) in
        let x = struck_cost p l t u (live_in h) i j hit in
        let y = live_least h t i in
        ne (live_cost h deep t i (omega (arith, x, y))))))

    first_made : (l p : ℕ) (f : FaultStep) → Live p l → left p ≡ l
        → find (λ s. eqb (cost_of g square (run g p (approach g v entered l p)) s) (cost (run g p (approach g v entered l p)))) faults ≡ some f
        → find (harmful g ends p) (series faults g.symbols l) ≡ some (made_of l p f)
    unfolding series approach run
    first_made zero p f h e chosen = at_once p zero f h here (omega arith) chosen
      where
        here : cost p ≡ 0
        here = ⊎_elim (λ r. r) (λ r. absurd (omega (arith, r.1))) (way.leading.leads p zero (live_in h) e (omega arith))
    first_made (suc l) p f h e chosen = go (eqb (cost p) (suc l)) refl (first_made l) chosen
      where
        s : suc l < never
        s = omega (arith, h.sum, low)

        a : ℕ
        a = onward g v l p

        to_fault : Bool → List ℕ
        to_fault b = cond b [] (a ∷ approach g v entered l (g.next p a))

        made : List ℕ → Series
        made x = record { before = x; fault = f; after = path g square (gap (run g p x) f) (run g (run g p x) f.sent) (run g (run g p x) f.received) }

        go : (b : Bool) → eqb (cost p) (suc l) ≡ b
            → ((q : ℕ) (d : FaultStep) → Live q l → left q ≡ l
            → find (λ s. eqb (cost_of g square (run g q (approach g v entered l q)) s) (cost (run g q (approach g v entered l q)))) faults ≡ some d
            → find (harmful g ends q) (series faults g.symbols l) ≡ some (made_of l q d))
            → find (λ s. eqb (cost_of g square (run g p (to_fault b)) s) (cost (run g p (to_fault b)))) faults ≡ some f
            → find (harmful g ends p)
            (flat_map (struck g.symbols (suc l)) faults ++ each g.symbols (λ b. map (plain b) (series faults g.symbols l))) ≡ some (made (to_fault b))
        go true is rest chosen = find_here (harmful g ends p) (flat_map (struck g.symbols (suc l)) faults)
            (each g.symbols (λ b. map (plain b) (series faults g.symbols l))) (at_once p (suc l) f h (eqb-true (cost p) (suc l) is) s chosen)
        go false is rest chosen =
            find_later (harmful g ends p) (flat_map (struck g.symbols (suc l)) faults) (each g.symbols (λ b. map (plain b) (series faults g.symbols l)))
            (not_at_once p (suc l) h (eqb-false (cost p) (suc l) is))
            ∙ find_each (harmful g ends p) g.symbols (λ b. map (plain b) (series faults g.symbols l)) a a_in
            (λ j less. find_map_none (harmful g ends p) (plain j) (series faults g.symbols l) (lower j less))
            (find_map (harmful g ends p) (plain a) (series faults g.symbols l)
            (rest (g.next p a) f (live_on h a_in) (onward_leads g v l p a_in) chosen))
          where
            a_in : a < g.symbols
            a_in = ⊎_elim (λ r. absurd (eqb-false (cost p) (suc l) is r))
                (λ r. (let z : l ≡ r.0 = omega (arith, r.1) in subst (λ (x : ℕ). onward g v x p < g.symbols) (sym z) r.2))
                (way.leading.leads p (suc l) (live_in h) e s)

            lower : (j : ℕ) → j < a → find (λ u. harmful g ends p (plain j u)) (series faults g.symbols l) ≡ none
            lower j less =
                find_none (λ u. harmful g ends p (plain j u)) (series faults g.symbols l)
                (λ u i. not_clash (λ t.
                let r = series_in g faults l u i in
                let j_in : j < g.symbols = omega (arith, less, a_in) in
                let z = on_way u.before u.fault u.after (g.next p j) l (live_on h j_in) (record { valid = r.valid; harms = t }) r.long in
                clash (eq-eqb (left (g.next p j)) l z) (first_below (λ b. eqb (left (g.next p b)) l) 0 g.symbols j zero-le less)))

    -- the first harmful series from the start
    pub search_finds : (f : FaultStep)
        → find (λ s. eqb (cost_of g square (run g start (approach g v entered (left start) start)) s)
        (cost (run g start (approach g v entered (left start) start)))) faults ≡ some f
        → first_harmful g ends faults start ≡ some (made_of (left start) start f)
    search_finds f chosen =
        subst (λ (l : ℕ).
        find (λ s. eqb (cost_of g square (run g start (approach g v entered l start)) s) (cost (run g start (approach g v entered l start)))) faults ≡ some f
        → first_harmful g ends faults start ≡ some (made_of l start f))
        (sym start_left)
        (λ c. found_first g ends faults closed good start start_in total (made_of total start f) (total_within low) total_least
        (first_made total start f live_start start_left c))
        chosen
