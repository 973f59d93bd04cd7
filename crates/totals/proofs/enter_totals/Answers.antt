-- `enter_totals` meets its contract: of the states passed, those that lead on are entered.
use mathlib.Core.Path.{◌≡◌, ap, ◌∙◌, subst}
use Prim.Native.Nat.{ℕ, ◌+◌, ◌-◌, ◌<◌}
use native.Mathlib.Omega.{arith}
use lib.ListN.{get_or}
use Rattle.theory.specs.Monitor.{state_limit}
use Rattle.monitor.specs.Graph.{automaton}
use Rattle.layers.proofs.Queue.{queue_few}
use Rattle.totals.specs.Totals.{OnTheWay}
use Rattle.totals.proofs.Way.{way_not, way_on}
use Rattle.totals.proofs.enter_totals.Goals.{After-leads_on}
use Rattle.totals.proofs.enter_totals.Goals as goal

pub bounds-layers-i : goal.bounds-layers-i
bounds-layers-i c = (let few = c.args.graph.now.rows.states_most in omega (arith, queue_few few c.requires.0, few, c.requires.1))

-- the place before is one of the layers, what is left at its state and the depth are the total, and what is known from
-- there on
behind : (c : After-leads_on)
    → (let a = c.args in
    let i = c.loop-i.i - 1 in
    (i < a.layers.now.count) × (a.costs.now.total - c.from.result + get_or a.layers.now.depths c.from-p.result 0 ≡ a.costs.now.total)
    × OnTheWay state_limit (automaton a.graph.now) a.layers.now.order a.layers.now.depths a.costs.now.costs a.costs.now.total (i + 1)
    a.costs.now.visited c.loop-i.totals)
behind c =
    let a = c.args in
    let at = c.loop-i in
    let e : at.i ≡ (at.i - 1) + 1 = omega (arith, c.loop-i-test.true) in
    let shallow = c.requires.2 (at.i - 1) (omega (arith, c.loop-i-test.true, at.auto.i)) in
    let depth = c.from.ensures ∙ ap (λ (q : ℕ). get_or a.layers.now.depths q 0) c.from-p.ensures in (
      omega (arith, c.loop-i-test.true, at.auto.i, c.requires.1),
      omega (arith, shallow, depth, c.from.ensures),
      subst
          (λ (j : ℕ). OnTheWay state_limit (automaton a.graph.now) a.layers.now.order a.layers.now.depths a.costs.now.costs a.costs.now.total j
          a.costs.now.visited at.totals)
          e at.invariant,
    )

pub loop-i-preserved-then-leads_on : goal.loop-i-preserved-then-leads_on
loop-i-preserved-then-leads_on c =
    let b = behind (goal.at.loop-i-preserved-then-leads_on c).After-leads_on in
    way_on _ c.args.graph.now.rows.states_most c.requires.0 b.0 c.from-p.ensures b.1 c.requires.3 b.2 (c.leads_on.ensures.yes c.if-leads_on.true)
    c.requires.1

pub loop-i-preserved : goal.loop-i-preserved
loop-i-preserved c =
    let b = behind (goal.at.loop-i-preserved c).After-leads_on in
    way_not _ c.args.graph.now.rows.states_most c.requires.0 b.0 c.from-p.ensures b.1 c.requires.3 b.2 (c.leads_on.ensures.no c.if-leads_on.false)
