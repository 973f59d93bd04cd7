-- `lowest_of` meets its contract.
use Rattle.std.proofs.Common.{◌<◌, length, arith}
use Rattle.certificate.proofs.Agreeing.{numbered_whole}
use Rattle.certificate.proofs.Lowest.{lowest_most}
use Rattle.certificate.proofs.blocks.Blocks.lowest_of.Goals as goal

pub lowest_of-requires : goal.lowest_of-requires
lowest_of-requires c =
    let b = c.args.self.now in
    (numbered_whole b.numbered, b.entered, omega (arith, c.requires, b.numbered.size))

pub returns : goal.returns
returns c =
    let b = c.args.self.now in
    let inside : c.args.q < length b.numbers.now = omega (arith, c.requires, b.numbered.size) in
    record { value = c.lowest_of.ensures; inside = omega (arith, c.lowest_of.ensures, lowest_most b.numbers.now c.args.q inside, c.requires) }
