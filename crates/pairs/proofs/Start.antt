-- What the pass leaves is what the first round starts from.
use mathlib.Core.Path.{◌≡◌, refl, ◌∙◌}
use mathlib.Core.Bool.{Bool, true, false, cond, not, ◌&&◌}
use mathlib.Core.List.{List}
use mathlib.Core.Logic.{◌⊎◌, inl, inr}
use Prim.Native.Nat.{ℕ, ◌+◌, ◌*◌, ◌≤◌, ◌<◌, zero-le}
use native.Mathlib.Omega.{arith}
use lib.Arith.{digits_lt}
use lib.Dec.{eqb, leb}
use lib.ListN.{length, get_or}
use borrow.Author.Tests.{eq-eqb, lt-ltb}
use Rattle.theory.specs.Pairs.{told}
use Rattle.state_set.specs.declared.StateSet.{StateSet}
use Rattle.square.specs.declared.Test.{Test}
use Rattle.square.specs.declared.Test.TheVariants.{Differ, Misread}
use Rattle.square.specs.Square.{never, entry, passes, passing, apart_at_once}
use Rattle.rounds.specs.Layers.{Layer}
use Rattle.pass.specs.Begun.{Begun}
use Rattle.pass.proofs.First.{zero_where}

-- no state passes the test with itself
passes_self : (test : Test) (x : ℕ) → passes test x x ≡ false
passes_self Differ x = rw (eq-eqb x x refl)
passes_self (Misread v) x = go (eqb x v)
  where
    go : (c : Bool) → (c && not c) ≡ false
    go true = refl
    go false = refl

module _ {n : ℕ} {test : Test} {outs square : List ℕ} {alike fresh : List StateSet} {rows : ℕ → Bool} (e : length outs ≡ n)
    (b : Begun test outs (length outs) (length outs * length outs) square alike fresh rows) where
  done : (p q : ℕ) → p < n → q < n → entry square p q ≡ cond (passing test outs p q) 0 never
  done p q lp lq =
      let lp' : p < length outs = omega (arith, lp, e) in
      let lq' : q < length outs = omega (arith, lq, e) in
      b.entries p q lp' lq' ∙ rw (lt-ltb (p * length outs + q) (length outs * length outs) (digits_lt lp' lq'))

  -- the pairs at 0 are those that pass the test
  pub begun_passing : (p q : ℕ) → p < n → q < n → apart_at_once square p q ≡ passing test outs p q
  begun_passing p q lp lq = rw (done p q lp lq) (zero_where (passing test outs p q))

  pub begun_self : (p : ℕ) → p < n → apart_at_once square p p ≡ false
  begun_self p lp = begun_passing p p lp lp ∙ passes_self test (get_or outs p 0)

  pub begun_layer : {k : ℕ} {successor : ℕ → ℕ → ℕ}
      → Layer (record { states = n; symbols = k; next = successor }) (apart_at_once square) 0 square alike fresh rows
  unfolding told
  begun_layer = record {
    kept = rw e at b.kept;
    stage = λ p q lp lq. record {
      agrees = λ s l. (let z : s ≡ 0 = omega (arith, l) in rw (z, done p q lp lq) (at_zero (passing test outs p q)));
      known = rw (done p q lp lq) (either (passing test outs p q));
    };
  }
    where
      at_zero : (c : Bool) → eqb (cond c 0 never) 0 ≡ leb (cond c 0 never) 0
      at_zero true = refl
      at_zero false = refl

      either : (c : Bool) → (cond c 0 never ≤ 0) ⊎ (cond c 0 never ≡ never)
      either true = inl zero-le
      either false = inr refl
