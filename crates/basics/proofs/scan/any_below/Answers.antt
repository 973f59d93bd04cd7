-- `any_below` meets its contract: the numbers before `i` fail every test that the closure computes.
use Rattle.std.proofs.Common.{sym, arith}
use Rattle.theory.proofs.Scan.{scan_begins, scan_goes_on, scan_some, scan_none}
use Rattle.basics.proofs.scan.any_below.Goals as goal

pub loop-i-init : goal.loop-i-init
loop-i-init g c = λ f same. scan_begins f _ _

pub returns-then-passes : goal.returns-then-passes
returns-then-passes g c = λ f same. scan_some (c.loop-i.invariant f same) c.loop-i-test.true
    (sym (same _ _ c.loop-i-test.true c.if-passes.ensures))

pub loop-i-preserved : goal.loop-i-preserved
loop-i-preserved g c = λ f same. scan_goes_on (c.loop-i.invariant f same) (omega (arith, c.loop-i-test.true))
    (sym (same _ _ c.loop-i-test.true c.if-passes.ensures))

pub returns : goal.returns
returns g c = λ f same. scan_none (c.loop-i.invariant f same) (omega arith)
