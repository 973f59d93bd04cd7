-- `spread` meets its contract: the rows of each part are done.
use mathlib.Core.Path.{◌∙◌}
use native.Mathlib.Omega.{arith}
use Rattle.rounds.specs.Fronts.{graph_of, part_of, all_of}
use Rattle.rounds.proofs.Rounds.{one_part, two_parts, in_rows}
use Rattle.rounds.proofs.front.Front.spread.Goals as goal

pub returns-then-self-gt-WORD : goal.returns-then-self-gt-WORD
returns-then-self-gt-WORD c =
    let f = c.args.self.now in
    let low = c.spread_columns.ensures in
    let high = c.spread_columns-then-self-gt-WORD.ensures in
    record {
      stays = high.stays ∙ low.stays;
      goes = two_parts (part_of f) (all_of f) (λ p q. p) (λ p q lp lq. lp) (in_rows (graph_of f) f.row f.predecessors.graph.symbols)
          f.predecessors.graph.rows.states_most low.goes high.goes;
    }

pub returns-else-self-gt-WORD : goal.returns-else-self-gt-WORD
returns-else-self-gt-WORD c =
    let f = c.args.self.now in
    let low = c.spread_columns.ensures in
    record {
      stays = low.stays;
      goes = one_part (part_of f) (all_of f) (λ p q. p) (λ p q lp lq. lp) (in_rows (graph_of f) f.row f.predecessors.graph.symbols)
          (omega (arith, c.if-self-gt-WORD.false)) low.goes;
    }
