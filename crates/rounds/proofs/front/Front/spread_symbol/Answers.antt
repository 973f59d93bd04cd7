-- `spread_symbol` meets its contract: of the rows from which a leads to the state, the active ones are done.
use mathlib.Core.Path.{◌≡◌, refl, sym, ◌∙◌}
use mathlib.Core.Bool.{true}
use Prim.Native.Nat.{ℕ, ◌+◌, ◌*◌}
use lib.Bits.{bit_and}
use Rattle.theory.specs.Monitor.{symbol_limit}
use Rattle.theory.proofs.Below.{and_left, and_right}
use Rattle.state_set.specs.Member.{is_part, in_part, member, set_at}
use Rattle.state_set.proofs.Words.{part_and}
use Rattle.rows.proofs.Visit.{word_none}
use Rattle.rows.proofs.Several.{set_nothing}
use Rattle.rounds.proofs.Rounds.{predecessor_in, symbol_done_lem}
use Rattle.rounds.proofs.front.Front.spread_symbol.Goals as goal

pub returns-then-left-eq0 : goal.returns-then-left-eq0
returns-then-left-eq0 c =
    let f = c.args.self.now in
    let a = c.args.a in
    let v = c.args.v in
    let leading = c.part_of-leading in
    let active = c.part in
    let left = in_part v (bit_and leading.result active.result) in
    record {
      stays = refl;
      goes = symbol_done_lem f.row a v c.args.w left f.row_inside c.requires.0
          (λ p. part_and v leading.result active.result p ∙ rw (leading.ensures p, active.ensures p))
          (set_nothing f.row a (is_part c.args.w) left (word_none v c.if-left-eq0.true));
    }

pub returns : goal.returns
returns c =
    let f = c.args.self.now in
    let a = c.args.a in
    let v = c.args.v in
    let w = c.args.w in
    let g = f.predecessors in
    let leading = c.part_of-leading in
    let active = c.part in
    let left = in_part v (bit_and leading.result active.result) in
    let both = part_and v leading.result active.result in
    let from = λ (p : ℕ) (t : left p ≡ true).
    and_right (is_part v p) (set_at g.sets.now (f.row * symbol_limit + a) p)
    (sym (leading.ensures p) ∙ and_left (in_part v leading.result p) (in_part v active.result p) (sym (both p) ∙ t)) in
    record {
      stays = c.spread_rows.ensures.stays;
      goes = symbol_done_lem f.row a v w left f.row_inside c.requires.0
          (λ p. both p ∙ rw (leading.ensures p, active.ensures p))
          (c.spread_rows.ensures.goes _ f.row a (member f.states) g.sets.now
          (record { at = λ p t. predecessor_in g.preceding f.row a p f.row_inside c.requires.0 (from p t) }) f.row_inside c.requires.0
          (λ closed P. c.leading_into-into.ensures) from);
    }
