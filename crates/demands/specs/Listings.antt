-- The listing of a collection, as one claim about any file of bytes.
use Rattle.std.specs.Prelude.{◌≡◌, List, [], ◌∷◌, ℕ, ◌≤◌, length}
use Rattle.theory.specs.Answer.{answered}
use Rattle.theory.specs.Monitor.{state_limit}
use Rattle.writer.specs.Reading.{Bytes}
use Rattle.listing_text.specs.Listing.{listing_questions, accepted_text, refused_text}
use Rattle.listing_text.specs.Listing.{listing_text, listing_answer, listing_room}
use Rattle.demands.specs.DemandOne.{AllYes, FirstNo}

pub record Listings (file : List ℕ) : Type 0 where
  -- where 26 and then 20 to 25 are all answered yes, it is the header and a line for each entry
  pub whole : AllYes (listing_questions file) → listing_text state_limit file ≡ accepted_text state_limit file
  -- and else the one line with the number of the first no
  pub refused : (number place : ℕ) → FirstNo (listing_questions file) number place
      → listing_text state_limit file ≡ refused_text number
  -- nothing is dropped: an area of `listing_room` bytes holds every listing
  pub fits : (room : ℕ) → Bytes file → listing_room ≤ room
      → listing_answer state_limit file room ≡ answered (length (listing_text state_limit file) ∷ [])
