-- `push_card` meets its contract: the fields put one behind the other are the line.
use Rattle.classes.specs.Numbers.{monitorability_number}
use Rattle.lines.proofs.Columns.{card_put}
use Rattle.lines.proofs.push_card.Goals as goal

pub returns : goal.returns
returns g c =
    rw (c.push.ensures, c.push_columns.ensures.columns, c.push_monitorability.ensures.word, c.push_figure.ensures.figure, c.push_number.ensures.text)
    (card_put c.args.text.now c.args.rule c.args.card.now.states (monitorability_number c.args.card.now.monitorability) c.args.card.now.columns)
