-- A collection file and the questions asked of it. A file is any list of numbers, whether or not they are bytes.
use Rattle.std.specs.Prelude.{Bool, cond, not, ◌||◌, List, [], ◌∷◌, ℕ, zero, suc, ◌+◌, ◌*◌, ◌-◌, length, get_or, take}
use Rattle.std.specs.Prelude.{drop, eqb, leb, ltb}
use Rattle.std.specs.Prelude.{Option, None, Some, Result}
use Rattle.theory.specs.Below.{first}
use Rattle.theory.specs.Answer.{Question, Answer, asks}
use Rattle.basics.specs.declared.refusal.Refusal.{Refusal}
use Rattle.basics.specs.Refusals.{answer_by}
use Rattle.monitor.specs.Questions.{of_each}

-- "All numbers are least byte first.": the number of `width` bytes from a place on; what is not there counts as 0
abbrev pub number_at : ℕ → List ℕ → ℕ → ℕ
number_at zero bytes at = 0
number_at (suc width) bytes at = get_or bytes at 0 + 256 * number_at width bytes (suc at)

-- "a two-byte count c"
abbrev pub count_of : List ℕ → ℕ
count_of file = number_at 2 file 0

-- where the contents end: behind the count and "c entries of eight bytes"
abbrev pub contents_end : List ℕ → ℕ
contents_end file = 2 + 8 * count_of file

-- the eight bytes of entry i; from c on there is none
abbrev pub entry_of : List ℕ → ℕ → List ℕ
entry_of file i = cond (ltb i (count_of file)) (take 8 (drop (2 + 8 * i) file)) []

-- "body offset (four), body length (two), rule number (two)"
abbrev pub offset_of : List ℕ → ℕ → ℕ
offset_of file i = number_at 4 (entry_of file i) 0

abbrev pub length_of : List ℕ → ℕ → ℕ
length_of file i = number_at 2 (entry_of file i) 4

abbrev pub rule_of : List ℕ → ℕ → ℕ
rule_of file i = number_at 2 (entry_of file i) 6

-- the body of entry i, as far as the file has it
abbrev pub body_of : List ℕ → ℕ → List ℕ
body_of file i = take (length_of file i) (drop (offset_of file i) file)

-- where body i has to start, as "the bodies follow in entry order without gaps": the first behind the contents, "each
-- later one where the previous ends"; with i = c, where the file has to end
abbrev pub start_of_body : List ℕ → ℕ → ℕ
start_of_body file i = cond (eqb i 0) (contents_end file) (offset_of file (i - 1) + length_of file (i - 1))

-- "has it at least 2 bytes?"
abbrev pub question20 : List ℕ → Question
question20 file = record { yes = leb 2 (length file); number = 20; place = 0 }

-- the greatest number of entries
abbrev pub entry_limit : ℕ
entry_limit = 512

-- "is c at most 512?"
abbrev pub question21 : ℕ → Question
question21 c = record { yes = leb c entry_limit; number = 21; place = 0 }

-- "are all entries there?"
abbrev pub question22 : List ℕ → Question
question22 file = record { yes = leb (contents_end file) (length file); number = 22; place = 0 }

-- the rule number of entry i is "greater than the one before"; the first has none before it. `rule` gives the rule
-- number of each entry.
abbrev pub rises : (ℕ → ℕ) → ℕ → Bool
rises rule i = eqb i 0 || ltb (rule (i - 1)) (rule i)

-- the first of c entries that does not pass the test, or c
abbrev pub first_no : (ℕ → Bool) → ℕ → ℕ
first_no test c = first (λ i. not (test i)) 0 c

-- "is each rule number greater than the one before?", the place "is the entry, from 0"
abbrev pub question23 : (ℕ → ℕ) → ℕ → Question
question23 rule c = of_each 23 0 (first_no (rises rule) c) c

-- body i starts where it has to
abbrev pub follows : List ℕ → ℕ → Bool
follows file i = eqb (offset_of file i) (start_of_body file i)

-- "does the first body start at 2 + 8 × c, and each later one where the previous ends?", the place likewise
abbrev pub question24 : List ℕ → Question
question24 file = of_each 24 0 (first_no (follows file) (count_of file)) (count_of file)

-- "does the last body (with c = 0, the count) end the file?"
abbrev pub question25 : List ℕ → Question
question25 file = record { yes = eqb (length file) (start_of_body file (count_of file)); number = 25; place = 0 }

-- in the written order: "23 is asked of all entries before 24"
abbrev pub collection_questions : List ℕ → List Question
collection_questions file =
    question20 file
    ∷ question21 (count_of file)
    ∷ question22 file
    ∷ question23 (rule_of file) (count_of file)
    ∷ question24 file
    ∷ question25 file
    ∷ []

-- "An accepted collection answers c; a body at fault does not refuse it."
unfoldable pub collection_answer : List ℕ → Answer (List ℕ)
collection_answer file = asks (collection_questions file) (count_of file ∷ [])

-- 01's number and place of a refusal, or the count
abbrev pub collected : Result ℕ Refusal → Answer (List ℕ)
collected r = answer_by (λ count. count ∷ []) r

-- the first of the c entries that has this rule number, from 0; c where none has it
abbrev pub first_with : List ℕ → ℕ → ℕ
first_with file rule = first (λ i. eqb (rule_of file i) rule) 0 (count_of file)

-- the entry that has this rule number, if one has it
abbrev pub entry_with : List ℕ → ℕ → Option ℕ
entry_with file rule = cond (ltb (first_with file rule) (count_of file)) (Some (first_with file rule)) None
