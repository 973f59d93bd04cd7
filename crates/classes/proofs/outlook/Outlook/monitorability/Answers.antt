-- `monitorability` meets its contract: some state reached is ugly, or it goes by the start.
use Rattle.std.proofs.Common.{◌∙◌, arith}
use Rattle.classes.proofs.Tables.{some_ugly, none_ugly}
use Rattle.classes.proofs.outlook.Outlook.monitorability.Goals as goal

pub returns-then-count-gt0 : goal.returns-then-count-gt0
returns-then-count-gt0 c =
    let o = c.args.self.now in
    some_ugly o.table.now.sound o.truth_at o.falsity_at _ c.open.ensures _ c.requires c.minus-ugly.ensures (omega (arith, c.count.ensures, c.if-count-gt0.true))

pub returns : goal.returns
returns c =
    let o = c.args.self.now in
    c.weak.ensures
    ∙ none_ugly o.table.now.sound o.truth_at o.falsity_at _ c.open.ensures _ c.requires c.minus-ugly.ensures
    (omega (arith, c.count.ensures, c.if-count-gt0.false)) c.class_of.ensures
