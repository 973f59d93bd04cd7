-- The listing of a collection, proved of every file.
use mathlib.Core.Path.{ap}
use mathlib.Core.Bool.{Bool, true, false, cond}
use mathlib.Core.List.{List, []}
use Prim.Native.Nat.{ℕ, ◌+◌, ◌*◌, ◌<◌}
use native.Mathlib.Omega.{arith}
use lib.ListN.{length, take, drop}
use lib.Dec.{ltb}
use borrow.Author.Tests.{le-leb}
use Rattle.theory.specs.Monitor.{state_limit}
use Rattle.monitor.specs.Questions.{no_values}
use Rattle.collection.specs.Contents.{number_at, count_of, rule_of}
use Rattle.writer.specs.Reading.{Bytes}
use Rattle.writer.proofs.Numbers.{bytes_take, bytes_drop}
use Rattle.listing_text.specs.Listing.{listing_questions, judged_text, listing_text, listing_answer}
use Rattle.listing_text.proofs.Judged.{listing_short}
use Rattle.demands.specs.Listings.{Listings}
use Rattle.demands.proofs.DemandOne.{asks_judged}

-- a rule number has two bytes
rule_low : (file : List ℕ) → Bytes file → (i : ℕ) → rule_of file i < 65536
rule_low file b i = go (ltb i (count_of file))
  where
    go : (there : Bool) → number_at 2 (cond there (take 8 (drop (2 + 8 * i) file)) []) 6 < 65536
    go true = (let e = bytes_take 8 (drop (2 + 8 * i) file) (bytes_drop (2 + 8 * i) file b) in omega (arith, e 6, e 7))
    go false = omega arith

pub listings : (file : List ℕ) → Listings file
unfolding listing_text listing_answer
listings file =
    let judged = asks_judged (listing_questions file) no_values in
    record {
      whole = λ yes. ap (judged_text state_limit file) (judged.accepts.1 yes);
      refused = λ number place no. ap (judged_text state_limit file) ((judged.refuses number place).1 no);
      fits = λ room b l.
          (let s = listing_short state_limit file (omega arith) (rule_low file b) in
          rw (le-leb (length (listing_text state_limit file)) room (omega (arith, s, l))));
    }
