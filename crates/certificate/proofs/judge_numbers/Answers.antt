-- `judge_numbers` meets its contract.
use mathlib.Core.Path.{sym}
use borrow.Author.Tests.{eq-eqb}
use Rattle.monitor.proofs.Body.{all_passed}
use Rattle.certificate.proofs.judge_numbers.Goals as goal

pub returns : goal.returns
returns c =
    let found = c.first_not_below-wrong.ensures in
    sym (rw (eq-eqb _ _ c.if-len-n.false, ← found, all_passed _ found c.if-wrong-len.false))
