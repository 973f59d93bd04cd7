-- `some_not_below` meets its contract: what was found is so of the bytes before this one.
use Rattle.std.proofs.Common.{refl, sym, ap, ◌∙◌, Bool, ◌||◌}
use Rattle.theory.specs.Below.{any}
use Rattle.theory.proofs.Below.{any_more}
use Rattle.monitor.specs.Questions.{not_below}
use Rattle.monitor.proofs.some_not_below.Goals as goal

pub loop-byte-init : goal.loop-byte-init
unfolding any
loop-byte-init c = refl

pub loop-byte-preserved : goal.loop-byte-preserved
loop-byte-preserved c =
    let at = c.loop-byte in
    let f = not_below c.args.bound c.args.bytes.now in
    ap (λ (b : Bool). b || f at.byte-index) at.invariant ∙ sym (any_more at.byte-index f)
