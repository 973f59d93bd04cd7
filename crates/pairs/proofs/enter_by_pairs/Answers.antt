-- `enter_by_pairs` meets its contract: the sets are empty, and every row is active.
use borrow.Author.Rules.{rules}
use mathlib.Core.Path.{◌∙◌}
use borrow.Author.Tests.{lt-ltb}
use Rattle.state_set.proofs.Sets.{set_all}
use Rattle.rows.proofs.Gather.{empty_sets}
use Rattle.pairs.proofs.enter_by_pairs.Goals as goal

pub enter_rounds-requires : goal.enter_rounds-requires
enter_rounds-requires c =
    let e = c.enter-predecessors.ensures in
    let P = c.enter-predecessors.result in
    let g = c.args.graph.now in
    rw e (
      record {
        blank = c.requires.0;
        alike_none = empty_sets g.states 128 _ g.rows.states_most c.empty.ensures;
        active_all = λ w p lw lp. set_all 2 P.all w p lw ∙ P.states p ∙ rw e (lt-ltb p g.states lp);
      },
      c.requires.1,
    )

pub returns : goal.returns
returns c = (let s = rw c.enter-predecessors.ensures at c.enter_rounds.ensures.squared in search (rules, s))
