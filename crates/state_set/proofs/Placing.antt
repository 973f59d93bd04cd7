-- States put into sets one after another.
use mathlib.Core.Path.{◌≡◌, refl, sym, ap, ◌∙◌}
use mathlib.Core.Bool.{Bool, true, false, ◌&&◌, ◌||◌, and-false, or-false}
use mathlib.Core.List.{List}
use mathlib.Core.Logic.{⊎_elim}
use Prim.Native.Nat.{ℕ, ◌+◌, ◌<◌}
use native.Mathlib.Omega.{arith}
use lib.Dec.{eqb, ltb}
use borrow.Author.Tests.{eq-eqb, ne_eqb, eqb-true, lt-ltb, le-ltb}
use Rattle.theory.specs.Below.{any}
use Rattle.theory.specs.Monitor.{state_limit}
use Rattle.theory.proofs.Below.{lt_or_le, same_or_not, any_more}
use Rattle.state_set.specs.declared.StateSet.{StateSet}
use Rattle.state_set.specs.Member.{set_at, Put}
use Rattle.state_set.specs.Placing.{Placed}

module _ {number : ℕ → ℕ → ℕ} where
  -- no number was gone through yet
  pub placed_begins : (those : ℕ → Bool) (sets : List StateSet) → Placed number 0 those sets sets
  unfolding any
  placed_begins those sets = record { size = refl; at = λ i q. rw (and-false (those q)) (sym (or-false (set_at sets i q))) }

  -- p put into one more set
  pub placed_more : {p a i : ℕ} {before sets after : List StateSet} {test : ℕ → Bool} → Placed number a (λ q. eqb q p) before sets → p < state_limit
      → i ≡ number p a → Put sets i test after → ((q : ℕ) → test q ≡ (set_at sets i q || (eqb q p && ltb p state_limit)))
      → Placed number (a + 1) (λ q. eqb q p) before after
  placed_more {p} {a} {i} {before} {sets} {after} P lp ei S T = record {
    size = S.size ∙ P.size;
    at = λ j q.
        ⊎_elim (λ e. rw e (here q)) (λ ne. S.elsewhere j q ne ∙ P.at j q ∙ by j q (eqb q p) refl (λ h. ne_eqb j (number q a) (λ z. ne (z ∙ same q h))))
        (same_or_not j i)
        ∙ ap (λ (b : Bool). set_at before j q || (eqb q p && b)) (sym (any_more a (λ b. eqb j (number q b))));
  }
    where
      same : (q : ℕ) → eqb q p ≡ true → number q a ≡ i
      same q h = (let e = eqb-true q p h in rw e (sym ei))

      -- in the other sets nothing changes
      by : (j q : ℕ) (c : Bool) → eqb q p ≡ c → (eqb q p ≡ true → eqb j (number q a) ≡ false)
          → (set_at before j q || (eqb q p && any a (λ b. eqb j (number q b)))) ≡
          (set_at before j q || (eqb q p && (any a (λ b. eqb j (number q b)) || eqb j (number q a))))
      by j q true h other = rw (h, other h, or-false (any a (λ b. eqb j (number q b))))
      by j q false h other = rw h

      here : (q : ℕ) → set_at after i q ≡ (set_at before i q || (eqb q p && (any a (λ b. eqb i (number q b)) || eqb i (number q a))))
      here q = S.here q ∙ T q ∙ rw (P.at i q, lt-ltb p state_limit lp) (go (set_at before i q) (any a (λ b. eqb i (number q b))) (eqb q p) refl)
        where
          go : (s b c : Bool) → eqb q p ≡ c → ((s || (c && b)) || (c && true)) ≡ (s || (c && (b || eqb i (number q a))))
          go s b true h = rw (eq-eqb i (number q a) (sym (same q h))) (new s b)
            where
              new : (s b : Bool) → ((s || b) || true) ≡ (s || (b || true))
              new true b = refl
              new false b = refl
          go s b false h = or-false (s || false)

  -- the states before p, and then p
  pub placed_next : (p : ℕ) {count : ℕ} {before sets after : List StateSet} → Placed number count (λ q. ltb q p) before sets → Placed number count
      (λ q. eqb q p) sets after
      → Placed number count (λ q. ltb q (p + 1)) before after
  placed_next p {count} {before} P Q = record {
    size = Q.size ∙ P.size;
    at = λ i q. Q.at i q ∙ rw (P.at i q) (each (set_at before i q) (any count (λ a. eqb i (number q a))) q);
  }
    where
      each : (s b : Bool) (q : ℕ) → ((s || (ltb q p && b)) || (eqb q p && b)) ≡ (s || (ltb q (p + 1) && b))
      each s b q =
          ⊎_elim
          (λ (l : q < p). rw (lt-ltb q p l, lt-ltb q (p + 1) (omega arith), ne_eqb q p (λ e. omega (arith, e, l))) (or-false (s || b)))
          (λ l. ⊎_elim
          (λ (m : p < q). rw (le-ltb q p l, le-ltb q (p + 1) (omega arith), ne_eqb q p (λ e. omega (arith, e, m))) (or-false (s || false)))
          (λ m. (let e : q ≡ p = omega arith in rw (le-ltb q p l, lt-ltb q (p + 1) (omega (arith, e)), eq-eqb q p e) (ap (λ (c : Bool). c || b) (or-false s))))
          (lt_or_le p q))
          (lt_or_le q p)
