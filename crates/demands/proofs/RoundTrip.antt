-- What is written is read again, and no other file reads so.
use mathlib.Core.Path.{◌≡◌}
use mathlib.Core.List.{List}
use Prim.Native.Nat.{ℕ}
use Rattle.theory.specs.Answer.{answered}
use Rattle.writer.specs.Writing.{TwoByte, write_answer}
use Rattle.writer.proofs.Read.{one_encoding}
use Rattle.writer.proofs.Encoded.{encoding_read}
use Rattle.writer.proofs.Given.{body_long, bodies_whole, given_fits, given_writable, written_asked}
use Rattle.demands.specs.RoundTrip.{OneFile, RoundTrip}

-- of any numbers and bodies
pub one_file : (c : ℕ) (rule : ℕ → ℕ) (body : ℕ → List ℕ) → OneFile c rule body
one_file c rule body file b h = one_encoding b h

-- of all that the writer accepts
pub round_trip : (limit : ℕ) (rules lengths bodies : List ℕ) → TwoByte rules → TwoByte lengths
    → (room : ℕ) {values : List ℕ} → write_answer limit rules lengths bodies room ≡ answered values → RoundTrip rules lengths bodies
round_trip limit rules lengths bodies r l room e =
    let passed = written_asked limit rules lengths bodies room e in
    let f = given_fits limit rules lengths bodies passed in
    record {
      cut = λ i h. body_long f i;
      end_to_end = bodies_whole f;
      read = encoding_read (given_writable limit rules lengths bodies passed r l);
      only = one_file _ _ _;
    }
