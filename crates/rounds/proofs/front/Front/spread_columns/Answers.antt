-- `spread_columns` meets its contract: the columns of each part are done.
use mathlib.Core.Path.{◌∙◌}
use native.Mathlib.Omega.{arith}
use Rattle.rounds.specs.Fronts.{graph_of, block_of, part_of}
use Rattle.rounds.proofs.Rounds.{one_part, two_parts, in_columns}
use Rattle.rounds.proofs.front.Front.spread_columns.Goals as goal

pub returns-then-self-gt-WORD : goal.returns-then-self-gt-WORD
returns-then-self-gt-WORD c =
    let f = c.args.self.now in
    let v = c.args.v in
    let k = f.predecessors.graph.symbols in
    let low = c.spread_block.ensures in
    let high = c.spread_block-then-self-gt-WORD.ensures in
    record {
      stays = high.stays ∙ low.stays;
      goes = two_parts (λ w. block_of f v w k) (part_of f v) (λ p q. q) (λ p q lp lq. lq) (in_columns (graph_of f) f.row k v)
          f.predecessors.graph.rows.states_most low.goes high.goes;
    }

pub returns-else-self-gt-WORD : goal.returns-else-self-gt-WORD
returns-else-self-gt-WORD c =
    let f = c.args.self.now in
    let v = c.args.v in
    let k = f.predecessors.graph.symbols in
    let low = c.spread_block.ensures in
    record {
      stays = low.stays;
      goes = one_part (λ w. block_of f v w k) (part_of f v) (λ p q. q) (λ p q lp lq. lq) (in_columns (graph_of f) f.row k v)
          (omega (arith, c.if-self-gt-WORD.false)) low.goes;
    }
