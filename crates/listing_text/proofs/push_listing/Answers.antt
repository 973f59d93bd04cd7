-- `push_listing` meets its contract: the text is that of what the questions answer.
use Rattle.std.proofs.Common.{◌∙◌}
use Rattle.theory.specs.Monitor.{state_limit}
use Rattle.listing_text.proofs.Judged.{text_longer, text_refused, text_accepted, counted, count_few}
use Rattle.listing_text.proofs.push_listing.Goals as goal

pub returns-then-file-gt-INPUT_LIMIT : goal.returns-then-file-gt-INPUT_LIMIT
returns-then-file-gt-INPUT_LIMIT c = c.push_refused.ensures ∙ text_longer state_limit _ c.if-file-gt-INPUT_LIMIT.true

pub push_accepted-requires : goal.push_accepted-requires
push_accepted-requires c =
    let file = c.args.file.now in
    let short = c.if-file-gt-INPUT_LIMIT.false in
    (short, counted state_limit file short c.in-Ok.ensures, count_few state_limit file short c.in-Ok.ensures, c.requires)

pub returns-in-Ok : goal.returns-in-Ok
returns-in-Ok c = c.push_accepted.ensures ∙ text_accepted state_limit _ c.if-file-gt-INPUT_LIMIT.false c.in-Ok.ensures

pub returns-in-Err : goal.returns-in-Err
returns-in-Err c = c.push_refused-in-Err.ensures ∙ text_refused state_limit _ c.if-file-gt-INPUT_LIMIT.false c.in-Err.ensures
