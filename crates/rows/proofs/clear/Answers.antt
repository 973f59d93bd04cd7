-- `clear` meets its contract: the first sets are empty.
use lib.ListN.{drop, take, length}
use Rattle.std.proofs.lemmas.List.{length-take-le}
use Rattle.rows.proofs.Gather.{empty_filled}
use Rattle.rows.proofs.clear.Goals as goal

pub returns : goal.returns
returns c =
    let s = c.args.sets.now in
    let n = c.args.n in
    empty_filled n (length (take n s)) (drop n s) _ (length-take-le n s c.requires) c.empty.ensures (c.fill.ensures.after (λ y e. e))
