-- One word is another, and the other stays.
use mathlib.Core.Path.{◌≡◌}
use native.Mathlib.Omega.{arith}
use Rattle.state_set.specs.Member.{member}
use Rattle.state_set.proofs.Words.{part_low, part_high}
use Rattle.state_set.proofs.StateSet.with_part.Goals as goal

pub returns-then-w-eq0 : goal.returns-then-w-eq0
unfolding member
returns-then-w-eq0 c = (let s = c.args.self in rw c.if-w-eq0.true (part_low c.args.word s.low s.high))

pub returns-else-w-eq0 : goal.returns-else-w-eq0
unfolding member
returns-else-w-eq0 c =
    let s = c.args.self in
    let one : c.args.w ≡ 1 = omega (arith, c.requires, c.if-w-eq0.false) in
    rw one (λ q. part_high s.low c.args.word s.high q (omega arith) (omega arith))
