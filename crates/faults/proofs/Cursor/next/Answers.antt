-- `next` meets its contract: the next second, else the next first symbol, else the next kind.
use native.Mathlib.Omega.{arith}
use Rattle.faults.proofs.Rest.{next_second, next_first, next_kind}
use Rattle.faults.proofs.Cursor.next.Goals as goal

pub returns-then-second-seconds_of-clause-rest : goal.returns-then-second-seconds_of-clause-rest
returns-then-second-seconds_of-clause-rest c = next_second c.args.set.bits c.args.symbols c.args.self c.requires

pub returns-then-first-symbols-clause-rest : goal.returns-then-first-symbols-clause-rest
returns-then-first-symbols-clause-rest c =
    next_first c.args.set.bits c.args.symbols c.args.self c.requires (omega (arith, c.if-second-seconds_of.false, c.seconds_of.ensures))
    c.if-first-symbols.true

pub returns-clause-rest : goal.returns-clause-rest
returns-clause-rest c =
    next_kind c.args.set.bits c.args.symbols c.args.self c.requires (omega (arith, c.if-second-seconds_of.false, c.seconds_of.ensures))
    c.if-first-symbols.false c.first_from.result (rw c.rank.ensures at c.first_from.ensures.rest c.args.symbols (omega (arith, c.requires.first_in)))
