-- `expand` meets its contract: what was expanded has what it adds in the set, and the set is the least one so far.
use mathlib.Core.Path.{refl}
use native.Mathlib.Omega.{arith}
use borrow.Author.Rules.{rules}
use Rattle.reach.proofs.Closure.{expanding_first}
use Rattle.reach.proofs.Rounds.{expand_turn, expand_less, expand_last}
use Rattle.reach.proofs.expand.Goals.{in-None-1, in-Some+else-q-n}
use Rattle.reach.proofs.expand.Goals as goal

pub loop-q-init : goal.loop-q-init
loop-q-init g c = λ f same. expanding_first (λ p. refl) c.empty-expanded.ensures

pub loop-q-smaller : goal.loop-q-smaller
loop-q-smaller g c = expand_less _ _ c.minus.ensures c.in-Some.ensures c.with-expanded.ensures

pub loop-q-preserved : goal.loop-q-preserved
loop-q-preserved g c = λ f same.
    expand_turn _ _ c.minus.ensures c.in-Some.ensures c.with-expanded.ensures (c.loop-q.invariant f same) c.if-q-n.true
    (same c.in-Some.q c.adds.result c.if-q-n.true c.adds.ensures) c.union-wide.ensures

pub returns : goal.returns
returns g c = λ f same. elim c.match-first.branch [
  | in-None-1 w ↦ expand_last _ _ c.minus.ensures (c.loop-q.invariant f same) (λ p l. search rules)
  | in-Some+else-q-n w ↦ expand_last _ _ c.minus.ensures (c.loop-q.invariant f same) (λ p l. w.in-Some.ensures.least p (omega (arith, l, w.if-q-n.false)))
]
