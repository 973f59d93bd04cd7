-- What is handed to the writer, the questions asked of it, and the file that it stands for.
use Rattle.std.specs.Prelude.{◌≡◌, List, [], ◌∷◌, ◌++◌, map, ℕ, ◌+◌, ◌*◌, ◌≤◌, ◌<◌, length, get_or, take, drop, sum}
use Rattle.std.specs.Prelude.{eqb}
use Rattle.theory.specs.Lists.{each}
use Rattle.theory.specs.Answer.{Question, Answer, asks}
use Rattle.monitor.specs.Questions.{table_questions, question13}
use Rattle.collection.specs.Contents.{entry_limit, question21, question23}
use Rattle.writer.specs.Encoding.{entry_bytes, encoding}

-- what `write` takes, a list of two-byte numbers: every number of it is below 65,536
abbrev pub TwoByte : List ℕ → Type 0
TwoByte l = (i : ℕ) → get_or l i 0 < 65536

-- "a list of rule numbers": that of entry i
abbrev pub given_rule : List ℕ → ℕ → ℕ
given_rule rules i = get_or rules i 0

-- "a list of body lengths and the bodies end to end": body i stands behind those before it
abbrev pub given_body : List ℕ → List ℕ → ℕ → List ℕ
given_body lengths bodies i = take (get_or lengths i 0) (drop (sum (take i lengths)) bodies)

-- the file that is written
abbrev pub file_of : List ℕ → List ℕ → List ℕ → List ℕ
file_of rules lengths bodies = encoding (length rules) (given_rule rules) (given_body lengths bodies)

-- "lists of equal length (27)"
abbrev pub question27 : List ℕ → List ℕ → Question
question27 rules lengths = record { yes = eqb (length rules) (length lengths); number = 27; place = 0 }

-- "lengths that sum to the bodies given (28)"
abbrev pub question28 : List ℕ → List ℕ → Question
question28 lengths bodies = record { yes = eqb (sum lengths) (length bodies); number = 28; place = 0 }

-- "for 23 and bodies the place is the entry"
abbrev pub placed_at : ℕ → Question → Question
placed_at entry q = record { yes = q.yes; number = q.number; place = entry }

-- a body's "questions 1 to 8 with their own numbers"
abbrev pub body_questions : ℕ → List ℕ → ℕ → List Question
body_questions limit body entry = map (placed_at entry) (table_questions limit body)

-- "body after body" for the first c entries
abbrev pub bodies_questions : ℕ → List ℕ → List ℕ → ℕ → List Question
bodies_questions limit lengths bodies c = each c (λ i. body_questions limit (given_body lengths bodies i) i)

-- what is asked of the lists and the bodies, in the written order: 27, 21, 23, 28, then the bodies
abbrev pub given_questions : ℕ → List ℕ → List ℕ → List ℕ → List Question
given_questions limit rules lengths bodies =
    question27 rules lengths
    ∷ question21 (length rules)
    ∷ question23 (given_rule rules) (length rules)
    ∷ question28 lengths bodies
    ∷ bodies_questions limit lengths bodies (length rules)

-- and last "room (13)"
abbrev pub write_questions : ℕ → List ℕ → List ℕ → List ℕ → ℕ → List Question
write_questions limit rules lengths bodies room =
    given_questions limit rules lengths bodies ++ (question13 (length (file_of rules lengths bodies)) room ∷ [])

-- "It answers the length written"
unfoldable pub write_answer : ℕ → List ℕ → List ℕ → List ℕ → ℕ → Answer (List ℕ)
write_answer limit rules lengths bodies room =
    asks (write_questions limit rules lengths bodies room) (length (file_of rules lengths bodies) ∷ [])

-- ---- layers

-- what questions 27, 21 and 28 leave
pub record Fits (rules lengths bodies : List ℕ) : Type 0 where
  pub same : length rules ≡ length lengths
  pub few : length rules ≤ entry_limit
  pub whole : sum lengths ≡ length bodies

-- entry i of c, by the lengths alone
abbrev pub entry_given : List ℕ → List ℕ → ℕ → List ℕ
entry_given rules lengths i =
    entry_bytes (2 + 8 * length rules + sum (take i lengths)) (get_or lengths i 0) (get_or rules i 0)
