-- One turn of a closure, the expansion of the lowest state that is left, in terms of what the calls in it promise.
use mathlib.Core.Path.{◌≡◌, refl, sym, ap, ◌∙◌}
use mathlib.Core.Bool.{Bool, true, false, not, ◌&&◌, ◌||◌}
use Prim.Native.Nat.{ℕ, ◌-◌, ◌<◌}
use native.Mathlib.Omega.{arith}
use lib.Dec.{eqb, ltb}
use borrow.Author.Tests.{eq-eqb, not-true}
use Rattle.theory.specs.Below.{count}
use Rattle.theory.proofs.Below.{or_left, or_right, and_left, and_right, count_le, count_more}
use Rattle.state_set.specs.Taking.{Lowest}
use Rattle.reach.specs.Closure.{Joined}
use Rattle.reach.proofs.Closure.{Expanding, expanding_turn, expanding_last}
use Rattle.reach.proofs.Steps.{with_in}

module _ (seen done : ℕ → Bool) {left : ℕ → Bool} (l : (p : ℕ) → left p ≡ (seen p && not (done p))) where
  pub expand_last : {n : ℕ} {adds : ℕ → ℕ → Bool} {f : ℕ → Bool} → Expanding n adds f seen done → ((p : ℕ) → p < n → left p ≡ false) → Joined n adds f seen
  expand_last x none = expanding_last x (λ p b. sym (l p) ∙ none p b)

  module _ {limit q : ℕ} (lowest : Lowest limit left q) {done' : ℕ → Bool} (d : (p : ℕ) → done' p ≡ (done p || (eqb p q && ltb q limit))) where
    picked : (seen q && not (done q)) ≡ true
    picked = sym (l q) ∙ lowest.found

    one_more : (p : ℕ) → done' p ≡ (done p || eqb p q)
    one_more = with_in limit q done done' lowest.below d

    pub expand_less : limit - count limit done' < limit - count limit done
    expand_less =
        let not_done = not-true (done q) (and_right (seen q) (not (done q)) picked) in
        let here = one_more q ∙ or_right (done q) (eqb q q) (eq-eqb q q refl) in
        let keeps : (p : ℕ) → p < limit → done p ≡ true → done' p ≡ true = λ p _ t. one_more p ∙ or_left (done p) (eqb p q) t in
        omega (arith, count_more limit done done' keeps q lowest.below not_done here, count_le limit done')

    pub expand_turn : {n : ℕ} {adds : ℕ → ℕ → Bool} {f out seen' : ℕ → Bool} → Expanding n adds f seen done → q < n → ((p : ℕ) → out p ≡ adds q p)
        → ((p : ℕ) → seen' p ≡ (seen p || out p)) → Expanding n adds f seen' done'
    expand_turn {seen' = seen'} x some o e =
        expanding_turn seen' done' q x some (and_left (seen q) (not (done q)) picked) one_more (λ p. e p ∙ ap (λ (b : Bool). seen p || b) (o p))
