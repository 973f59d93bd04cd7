-- `split_symbols` meets its contract: the symbols below a are done.
use native.Mathlib.Omega.{arith}
use Rattle.theory.specs.Monitor.{state_limit}
use Rattle.state_set.specs.Member.{member}
use Rattle.rows.proofs.Visit.{empty_none}
use Rattle.refining.proofs.Rounds.{leading_begins, leading_more, divided_none}
use Rattle.refining.proofs.split_symbols.Goals as goal

pub loop-a-init : goal.loop-a-init
loop-a-init c = leading_begins c.requires.0

pub loop-a-preserved-then-is_empty : goal.loop-a-preserved-then-is_empty
loop-a-preserved-then-is_empty c =
    let at = c.loop-a.invariant in
    let none = empty_none state_limit (member c.minus-into.result) c.is_empty.ensures c.if-is_empty.true in
    leading_more c.loop-a-test.true c.leading.ensures c.minus-into.ensures c.requires.2 at (divided_none at.partition none)

pub loop-a-preserved : goal.loop-a-preserved
loop-a-preserved c =
    let p = c.requires in
    leading_more c.loop-a-test.true c.leading.ensures c.minus-into.ensures p.2
    c.loop-a.invariant c.split_by.ensures

pub returns-clause-stable : goal.returns-clause-stable
returns-clause-stable c = λ a la. c.loop-a.invariant.done a (omega (arith, la, c.loop-a-test.false))
