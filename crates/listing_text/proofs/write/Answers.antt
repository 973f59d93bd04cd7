-- `write` meets its contract: the text of the listing is written if it fits.
use Rattle.std.proofs.Common.{◌∙◌, ap, List, ℕ, length}
use Rattle.theory.specs.Answer.{written}
use Rattle.text.specs.Text.{text_answer}
use Rattle.listing_text.specs.Listing.{listing_answer}
use Rattle.listing_text.proofs.write.Goals as goal

pub returns-clause-figures : goal.returns-clause-figures
unfolding listing_answer
returns-clause-figures c = c.write.ensures.figures ∙ ap (λ (text : List ℕ). text_answer text (length c.args.area.now)) c.push_listing.ensures

pub returns-clause-area : goal.returns-clause-area
unfolding listing_answer
returns-clause-area c =
    c.write.ensures.area ∙ ap (λ (text : List ℕ). written (text_answer text (length c.args.area.now)) text c.args.area.now) c.push_listing.ensures
