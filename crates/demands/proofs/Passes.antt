-- A pass over the pairs of states, proved of any number of states.
use mathlib.Core.Path.{sym, ◌∙◌}
use Prim.Native.Nat.{ℕ}
use Rattle.pass.proofs.Pass.{numbered, row_low, column_low, count, visited}
use Rattle.demands.specs.Passes.{Passes}

pub passes : (n : ℕ) → Passes n
passes n = record {
  numbered = λ k l. numbered n l;
  counted = count n;
  row_below = λ k l. row_low n l;
  column_below = λ k l. column_low n l;
  visited = λ p q lp lq. visited lp lq;
  once = λ i k li lk er ec. sym (numbered n li) ∙ rw (er, ec) (numbered n lk);
}
