-- A table with its marks settled is a table, and settling it again changes nothing.
use mathlib.Core.Path.{◌≡◌, ◌∙◌}
use mathlib.Core.List.{List}
use Prim.Native.Nat.{ℕ, ◌<◌}
use lib.ListN.{get_or}
use Rattle.theory.specs.Settled.{settled_mark}
use Rattle.theory.proofs.Values.{length_values, values_same, get_or_values}
use Rattle.theory.proofs.Settled.{settled_well_formed, settled_twice}
use Rattle.monitor.specs.Format.{automaton_of, settled_marks, Table}

-- the settled mark of a state
pub mark_at : (n k : ℕ) (vs ts : List ℕ) (q : ℕ) → q < n → get_or (settled_marks n k vs ts) q 0 ≡ settled_mark (automaton_of n k ts) (λ p. get_or vs p 0) q
mark_at n k vs ts q l = get_or_values n (settled_mark (automaton_of n k ts) (λ p. get_or vs p 0)) q l

module _ {limit n k s : ℕ} {vs ts : List ℕ} (t : Table limit n k s vs ts) where
  pub settled_table : Table limit n k s (settled_marks n k vs ts) ts
  settled_table = record {
    rows = t.rows;
    marks_length = length_values n (settled_mark (automaton_of n k ts) (λ p. get_or vs p 0));
    well_formed = settled_well_formed t.well_formed (λ q. get_or (settled_marks n k vs ts) q 0) (mark_at n k vs ts);
  }

  pub settled_again : settled_marks n k (settled_marks n k vs ts) ts ≡ settled_marks n k vs ts
  settled_again =
      values_same n (settled_mark (automaton_of n k ts) (λ q. get_or (settled_marks n k vs ts) q 0)) (settled_mark (automaton_of n k ts) (λ q. get_or vs q 0))
      (λ q l. settled_twice t.well_formed (λ p. get_or (settled_marks n k vs ts) p 0) (mark_at n k vs ts) q l ∙ mark_at n k vs ts q l)
