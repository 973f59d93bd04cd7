-- `write_before` meets its contract: at each turn the part written and the part to come give the way.
use mathlib.Core.Path.{◌≡◌, sym, subst, ◌∙◌}
use Prim.Native.Nat.{ℕ, ◌+◌, ◌-◌}
use native.Mathlib.Omega.{arith}
use lib.ListN.{get_or, set}
use Rattle.monitor.specs.Graph.{automaton}
use Rattle.monitor.proofs.Rows.{next_of_rows}
use Rattle.totals.proofs.Walk.{Walk, walk_goes_on, walk_spent, walk_written, walk_count, walk_state}
use Rattle.totals.proofs.write_before.Goals.{After-loop-count}
use Rattle.totals.proofs.write_before.Goals as goal

pub loop-count-preserved : goal.loop-count-preserved
loop-count-preserved c =
    let a = c.args in
    let at = c.loop-count in
    let written = set at.area at.count c.onward_by-a.result in
    let total = c.from-total.result in
    let e : total - at.count - 1 ≡ total - (at.count + 1) = omega arith in
    subst
    (λ (left : ℕ).
    Walk (automaton a.graph.now) a.totals.now a.costs.now.costs a.start a.area.now written c.successor-p.result (at.count + 1) left)
    e
    (walk_goes_on at.invariant c.requires.0 (λ h. c.if-from-left.false (c.from.ensures ∙ h)) c.onward_by-a.ensures (next_of_rows a.graph.now.rows)
    c.successor-p.ensures.next)

pub returns-then-from-left-clause-area : goal.returns-then-from-left-clause-area
returns-then-from-left-clause-area c = walk_written c.loop-count.invariant (sym c.from.ensures ∙ c.if-from-left.true)

pub returns-then-from-left-clause-count : goal.returns-then-from-left-clause-count
returns-then-from-left-clause-count c = walk_count c.loop-count.invariant (sym c.from.ensures ∙ c.if-from-left.true)

pub returns-then-from-left-clause-state : goal.returns-then-from-left-clause-state
returns-then-from-left-clause-state c =
    (walk_state c.loop-count.invariant (sym c.from.ensures ∙ c.if-from-left.true), c.loop-count.invariant.inside)

-- behind the last symbol nothing is left
spent : (c : After-loop-count)
    → (let at = c.loop-count in get_or c.args.costs.now.costs at.p 0 ≡ c.from-total.result - at.count)
spent c = walk_spent c.loop-count.invariant c.requires.0 (omega (arith, c.loop-count-test.false))

pub returns-clause-area : goal.returns-clause-area
returns-clause-area c = walk_written c.loop-count.invariant (spent (goal.at.returns-clause-area c).After-loop-count)

pub returns-clause-count : goal.returns-clause-count
returns-clause-count c =
    let n = walk_count c.loop-count.invariant (spent (goal.at.returns-clause-count c).After-loop-count) in
    omega (arith, n, c.loop-count-test.false, c.loop-count.auto.count-end)

pub returns-clause-state : goal.returns-clause-state
returns-clause-state c =
    (walk_state c.loop-count.invariant (spent (goal.at.returns-clause-state c).After-loop-count), c.loop-count.invariant.inside)
