-- The whole text of the listing, from the bytes that the program is given.
use Rattle.std.specs.Prelude.{List, ◌∷◌, ◌++◌, ℕ, ◌+◌, ◌*◌, length, leb}
use Rattle.theory.specs.Lists.{each}
use Rattle.theory.specs.Answer.{Question, Answer, refused, answered, asks}
use Rattle.monitor.specs.Questions.{no_values}
use Rattle.collection.specs.Contents.{count_of, rule_of, body_of, entry_limit, collection_questions}
use Rattle.text.specs.Text.{ascii, decimal, text_answer}
use Rattle.lines.specs.Line.{rule_line, line_most}

-- the greatest length of an input
abbrev pub input_limit : ℕ
input_limit = 65536

-- "whether its input is at most 65,536 bytes: 26"; "The others have place 0."
abbrev pub question26 : List ℕ → Question
question26 file = record { yes = leb (length file) input_limit; number = 26; place = 0 }

-- "The program alone asks first" 26, and then what a collection is asked
abbrev pub listing_questions : List ℕ → List Question
listing_questions file = question26 file ∷ collection_questions file

-- the header, 46 bytes
abbrev pub header_text : List ℕ
header_text = ascii "rule states class loss corruption repeat swap\n"

-- the line of entry i
abbrev pub entry_line : ℕ → List ℕ → ℕ → List ℕ
entry_line limit file i = rule_line limit (rule_of file i) (body_of file i)

-- "Under the header comes one line for each entry, in entry order."
abbrev pub accepted_text : ℕ → List ℕ → List ℕ
accepted_text limit file = header_text ++ each (count_of file) (entry_line limit file)

-- "A refused collection prints the one line `collection refused` and its number, without the header."
abbrev pub refused_text : ℕ → List ℕ
refused_text number = ascii "collection refused " ++ (decimal number ++ ascii "\n")

-- the text of the listing, by what the questions answer
abbrev pub judged_text : ℕ → List ℕ → Answer (List ℕ) → List ℕ
judged_text limit file (refused number place) = refused_text number
judged_text limit file (answered values) = accepted_text limit file

-- what the listing prints of a file
unfoldable pub listing_text : ℕ → List ℕ → List ℕ
listing_text limit file = judged_text limit file (asks (listing_questions file) no_values)

-- writing it asks 13 and answers its length
unfoldable pub listing_answer : ℕ → List ℕ → ℕ → Answer (List ℕ)
listing_answer limit file room = text_answer (listing_text limit file) room

-- room for every listing: the header, and as many lines as there are entries at most
abbrev pub listing_room : ℕ
listing_room = 46 + entry_limit * line_most
