-- The lower word is part 0, the upper one part 1.
use mathlib.Core.Path.{◌≡◌}
use native.Mathlib.Omega.{arith}
use Rattle.state_set.specs.Member.{member}
use Rattle.state_set.proofs.Words.{low_part, high_part}
use Rattle.state_set.proofs.StateSet.part.Goals as goal

pub returns-then-w-eq0 : goal.returns-then-w-eq0
unfolding member
returns-then-w-eq0 c = (let s = c.args.self in rw c.if-w-eq0.true (low_part s.low s.high))

pub returns-else-w-eq0 : goal.returns-else-w-eq0
unfolding member
returns-else-w-eq0 c =
    let s = c.args.self in
    let one : c.args.w ≡ 1 = omega (arith, c.requires, c.if-w-eq0.false) in
    rw one (high_part s.low s.high)
