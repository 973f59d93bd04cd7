-- A state added to a set, and one turn of the loop over symbols.
use mathlib.Core.Path.{◌≡◌, sym, ap, ◌∙◌}
use mathlib.Core.Bool.{Bool, false, ◌&&◌, ◌||◌, and-true}
use Prim.Native.Nat.{ℕ, ◌+◌, ◌<◌}
use lib.Dec.{eqb, ltb}
use borrow.Author.Tests.{lt-ltb}
use Rattle.theory.specs.Below.{any}
use Rattle.theory.specs.Automaton.{Automaton}
use Rattle.theory.proofs.Below.{any_more}
use Rattle.reach.specs.Closure.{leads_to}

-- a state below the limit is added as it stands
pub with_in : (limit q : ℕ) (old new : ℕ → Bool) → q < limit → ((p : ℕ) → new p ≡ (old p || (eqb p q && ltb q limit))) → (p : ℕ) → new p ≡ (old p || eqb p q)
with_in limit q old new l e p = e p ∙ rw (lt-ltb q limit l, and-true)

-- the set of one state
pub with_only : (limit q : ℕ) {none one : ℕ → Bool} → q < limit → ((p : ℕ) → none p ≡ false) → ((p : ℕ) → one p ≡ (none p || (eqb p q && ltb q limit)))
    → (p : ℕ) → one p ≡ eqb p q
with_only limit q {none} {one} l n e p = with_in limit q none one l e p ∙ ap (λ (b : Bool). b || eqb p q) (n p)

-- the set that holds what the first a symbols lead to, with what the next one leads to
pub successors_turn : (g : Automaton) (q a limit s : ℕ) (old new : ℕ → Bool) → s ≡ g.next q a → s < limit
    → ((p : ℕ) → new p ≡ (old p || (eqb p s && ltb s limit))) → ((p : ℕ) → old p ≡ any a (leads_to g q p)) → (p : ℕ) → new p ≡ any (a + 1) (leads_to g q p)
successors_turn g q a limit s old new e l more o p = with_in limit s old new l more p ∙ rw (o p, e) (sym (any_more a (leads_to g q p)))
