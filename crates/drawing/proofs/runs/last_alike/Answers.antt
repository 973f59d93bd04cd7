-- `last_alike` meets its contract: what is looked for holds something else, and stands behind `at`.
use Rattle.std.proofs.Common.{arith, rules, length, ◌-◌}
use Rattle.theory.proofs.Below.{first_le}
use Rattle.drawing.specs.Runs.{other_at}
use Rattle.drawing.proofs.Behind.{behind}
use Rattle.drawing.proofs.runs.last_alike.Goals as goal

pub overflow_sub-result : goal.overflow_sub-result
overflow_sub-result c =
    let found = c.first_in-other.ensures (other_at c.args.bytes.now c.args.at) (λ i b from upto e. search rules) in
    omega (arith, found, behind c.args.bytes.now c.args.at c.requires)

pub returns-clause-place : goal.returns-clause-place
returns-clause-place c =
    let found = c.first_in-other.ensures (other_at c.args.bytes.now c.args.at) (λ i b from upto e. search rules) in
    omega (arith, found)

pub returns-clause-inside : goal.returns-clause-inside
returns-clause-inside c =
    let found = c.first_in-other.ensures (other_at c.args.bytes.now c.args.at) (λ i b from upto e. search rules) in
    let behind_it = behind c.args.bytes.now c.args.at c.requires in
    let within = first_le (other_at c.args.bytes.now c.args.at) c.args.at (length c.args.bytes.now - c.args.at) in
    (omega (arith, found, behind_it), omega (arith, found, behind_it, within, c.requires))
