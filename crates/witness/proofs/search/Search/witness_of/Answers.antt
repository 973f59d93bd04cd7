-- `witness_of` meets its contract: the trace that is counted is the sent trace of the first series.
use mathlib.Core.Path.{◌≡◌, refl}
use mathlib.Core.Option.{some}
use lib.ListN.{take}
use Rattle.theory.specs.Series.{Series, sent_trace}
use Rattle.witness.specs.Search.{first_of}
use Rattle.witness.proofs.Counted.{ready_first, made_lent, made_within, made_figures}
use Rattle.witness.proofs.search.Search.witness_of.Goals.{After-harm_of-harm}
use Rattle.witness.proofs.search.Search.witness_of.Goals as goal

lent : (c : After-harm_of-harm) (z : Series) → first_of c.args.self.now c.args.set.bits ≡ some z
    → take c.args.costs.now.total c.harm_of-harm.new.area ≡ sent_trace z
lent c z i = made_lent c.requires i c.args.area.now refl (c.harm_of-harm.ensures.area z i)

pub counts_of-counts-requires : goal.counts_of-counts-requires
counts_of-counts-requires c =
    let after = (goal.at.counts_of-counts-requires c).After-harm_of-harm in
    let f = ready_first c.requires in
    rw (lent after f.0 f.1) (made_within c.requires f.1 (c.harm_of-harm.ensures.series f.0 f.1))

pub returns-clause-figures : goal.returns-clause-figures
returns-clause-figures c =
    let after = (goal.at.returns-clause-figures c).After-harm_of-harm in
    let n = c.counts_of-counts.ensures in
    λ z i.
    let is = lent after z i in
    made_figures c.requires i (c.harm_of-harm.ensures.series z i) c.counts_of-counts.result (rw is at n.sent) (rw is at n.received)
