-- `split_block` meets its contract: the block lies in the set, or the smaller part of it becomes a block.
use mathlib.Core.Path.{ap}
use mathlib.Core.Bool.{not}
use native.Mathlib.Omega.{arith}
use Rattle.theory.specs.Monitor.{state_limit}
use Rattle.state_set.specs.Member.{member}
use Rattle.rows.proofs.Visit.{empty_none, empty_some}
use Rattle.partition.specs.Blocks.{Parts}
use Rattle.partition.proofs.Splits.{blocks_few, finer_none, finer_as, not_same, Halves, halves_swap, split_asked}
use Rattle.partition.proofs.Splits.{split_partition, split_finer, split_stable, whole_stable, cut}
use Rattle.partition.proofs.Blocks.split_block.Goals.{After-count-2}
use Rattle.partition.proofs.Blocks.split_block.Goals as goal

-- the block has states in the set and states that are not
halves : (c : After-count-2)
    → (let a = c.args in
    Halves a.n a.square.now a.self.now a.b (member a.set) (member c.intersection-inside.result) (member c.minus-outside.result))
halves c =
    let minus = c.minus-outside in
    let p = c.requires in
    cut p.0 (member c.args.set) p.1 c.states_of-block.ensures minus.ensures c.intersection-inside.ensures
    (empty_some state_limit (member minus.result) c.is_empty.ensures c.if-is_empty.false)

pub states_of-block-requires : goal.states_of-block-requires
states_of-block-requires c =
    let p = c.requires in
    let l = p.0.below p.1.0 p.1.1 in
    let m = blocks_few p.0 in
    omega (arith, l, m, p.1.2, p.0.few)

pub returns-then-is_empty : goal.returns-then-is_empty
returns-then-is_empty c =
    let p = c.requires in
    let out = member c.minus-outside.result in
    record {
      blocks = p.0;
      finer = finer_none;
      stable = whole_stable p.0 (member c.args.set) p.1 c.states_of-block.ensures c.minus-outside.ensures
          (λ q lq. empty_none state_limit out c.is_empty.ensures c.if-is_empty.true q (omega (arith, lq, p.0.few)));
    }

pub split-requires : goal.split-requires
split-requires c = split_asked c.requires.2 (halves (goal.at.split-requires c).After-count-2)

pub returns-then-count : goal.returns-then-count
returns-then-count c =
    let fits = c.requires.2 in
    let h = halves (goal.at.returns-then-count c).After-count-2 in
    let s = c.split.ensures in
    record { blocks = split_partition fits h s; finer = split_finer fits h s; stable = split_stable fits h s }

pub split-requires-2 : goal.split-requires-2
split-requires-2 c = split_asked c.requires.2 (halves_swap (halves (goal.at.split-requires-2 c).After-count-2))

pub returns : goal.returns
returns c =
    let fits = c.requires.2 in
    let h = halves_swap (halves (goal.at.returns c).After-count-2) in
    let s = c.split-2.ensures in
    record {
      blocks = split_partition fits h s;
      finer = finer_as (Parts (member c.args.set)) (λ x y _ _ _ why e. why (ap not e)) (split_finer fits h s);
      stable = λ x y lx ly eb e. not_same (split_stable fits h s x y lx ly eb e);
    }
