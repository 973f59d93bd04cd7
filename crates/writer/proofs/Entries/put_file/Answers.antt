-- `put_file` meets its contract.
use Rattle.std.proofs.Common.{ap, ◌∙◌}
use Rattle.std.proofs.lemmas.List.Edits.{sets}
use Rattle.writer.proofs.Puts.{file_put}
use Rattle.writer.proofs.Entries.put_file.Goals as goal

pub returns : goal.returns
returns c =
    file_put c.requires.0 c.args.area.now c.requires.1 (c.put.ensures ∙ ap (sets c.args.area.now 0) c.to_le_bytes.ensures) c.put_entries.ensures c.put-2.ensures
