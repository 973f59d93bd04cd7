-- `enter_rounds` meets its contract: after r rounds every pair has had r, and when no pair is fresh all are done.
use mathlib.Core.Path.{◌≡◌, ◌∙◌}
use Prim.Native.Nat.{ℕ, suc, ◌+◌, ◌*◌, ◌≤◌, ◌<◌}
use native.Mathlib.Nat.{mul-le-mul}
use native.Mathlib.Numerals.{add-one}
use native.Mathlib.Omega.{arith}
use borrow.Author.Rules.{rules}
use Rattle.theory.specs.Monitor.{state_limit}
use Rattle.monitor.proofs.Rows.{next_of_rows}
use Rattle.square.specs.Square.{never, square_size}
use Rattle.square.proofs.Path.{squared_same}
use Rattle.rows.proofs.Visit.{empty_none, empty_some}
use Rattle.rows.proofs.Gather.{bare_fewer}
use Rattle.rounds.proofs.Layers.{layer_early, layer_last}
use Rattle.rounds.proofs.Rounds.{active_first}
use Rattle.pairs.proofs.Start.{begun_passing, begun_self, begun_layer}
use Rattle.pairs.proofs.enter_rounds.Goals as goal

few : (n : ℕ) {r : ℕ} → n ≤ state_limit → r ≤ n * n + 2 → r + 2 < never
few n m l =
    let s : n * n ≤ square_size = mul-le-mul m m in
    omega (arith, s, l)

pub rounds-init : goal.rounds-init
rounds-init c =
    let P = c.args.predecessors.now in
    let U = c.requires.0 in
    let e = c.requires.1 in
    let b = c.begin.ensures in
    let layer = begun_layer e b.begun in (
      search rules,
      record {
        small = P.graph.rows.states_most;
        closed = next_of_rows P.graph.rows;
        self = begun_self e b.begun;
        preceding = P.preceding;
      },
      layer,
      bare_fewer P.graph.rows.states_most c.none-next.ensures,
      active_first layer P.graph.rows.states_most _ (rw b.active U.active_all),
      b.stays,
    )

pub rounds-preserved : goal.rounds-preserved
rounds-preserved c =
    let at = c.rounds in
    let fresh = empty_some state_limit _ c.is_empty.ensures c.rounds-test.true in
    let early = layer_early at.invariant.2 at.invariant.1.closed fresh.0 fresh.2 in
    let once = c.spread.ensures.round _ at.invariant.1 at.invariant.3 at.invariant.4 at.invariant.2 in
    let twice = c.spread-in-rounds.ensures.round _ at.invariant.1 once.1 once.2 (rw (add-one at.r) once.0) in
    let two : suc (at.r + 1) ≡ at.r + 2 = omega arith in (
      omega (arith, early),
      at.invariant.1,
      rw two at twice.0,
      twice.1,
      twice.2,
      c.spread-in-rounds.ensures.stays ∙ c.spread.ensures.stays ∙ at.invariant.5,
    )

pub returns-clause-squared : goal.returns-clause-squared
returns-clause-squared c =
    let P = c.args.predecessors.now in
    let e = c.requires.1 in
    let at = c.rounds in
    let small = P.graph.rows.states_most in
    let none = empty_none state_limit _ c.is_empty.ensures c.rounds-test.false in
    let l = few _ small at.invariant.0 in
    squared_same (next_of_rows P.graph.rows) (begun_passing e c.begin.ensures.begun)
    (layer_last at.invariant.2 (next_of_rows P.graph.rows) (λ p lp. none p (omega (arith, lp, small))) (omega (arith, l)))
