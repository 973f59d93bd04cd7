-- `first_in` meets its contract: the numbers before `i` fail every test that the closure computes.
use Rattle.std.proofs.Common.{◌≡◌, ◌+◌, sym, ◌∙◌, arith}
use Rattle.theory.proofs.Scan.{scan_begins, scan_goes_on, scan_finds, scan_ends}
use Rattle.basics.proofs.scan.first_in.Goals as goal

pub loop-i-init : goal.loop-i-init
loop-i-init g c = λ f same. scan_begins f _ _

pub returns-then-passes : goal.returns-then-passes
returns-then-passes g c = λ f same. scan_finds (c.loop-i.invariant f same)
    (sym (same _ _ (c.loop-i.invariant f same).from c.loop-i-test.true c.if-passes.ensures))

pub loop-i-preserved : goal.loop-i-preserved
loop-i-preserved g c = λ f same. scan_goes_on (c.loop-i.invariant f same) c.loop-i-test.true
    (sym (same _ _ (c.loop-i.invariant f same).from c.loop-i-test.true c.if-passes.ensures))

pub returns : goal.returns
returns g c = λ f same.
    (let end : c.args.from + c.args.count ≡ c.loop-i.i = omega arith in
    end ∙ scan_ends (c.loop-i.invariant f same) (omega arith))
