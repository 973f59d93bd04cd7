-- `class_of` meets its contract.
use Rattle.std.proofs.Common.{◌∙◌}
use Rattle.classes.proofs.Tables.{class_at}
use Rattle.classes.proofs.outlook.Outlook.class_of.Goals as goal

pub returns : goal.returns
returns c =
    let o = c.args.self.now in
    c.from_mark.ensures ∙ rw (c.marks.ensures, c.has.ensures, c.has-2.ensures) (class_at o.table.now.sound o.truth_at o.falsity_at c.args.q c.requires)
