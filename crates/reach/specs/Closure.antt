-- How the functions below the entry points join sets of states until nothing is added.
use Rattle.std.specs.Prelude.{◌≡◌, Bool, true, ◌&&◌, ◌||◌, ℕ, ◌<◌, eqb, ltb}
use Rattle.theory.specs.Automaton.{Automaton, leads}
use Rattle.state_set.specs.declared.StateSet.{StateSet}
use Rattle.state_set.specs.Member.{member}

-- symbol a leads from q to p
abbrev pub leads_to : Automaton → ℕ → ℕ → ℕ → Bool
leads_to g q p a = eqb p (g.next q a)

-- `wide` is the least test that passes what f passes and, with each q below n that it passes, what q adds
pub record Joined (n : ℕ) (adds : ℕ → ℕ → Bool) (f wide : ℕ → Bool) : Type 0 where
  pub holds : (q : ℕ) → f q ≡ true → wide q ≡ true
  pub full : (q p : ℕ) → q < n → wide q ≡ true → adds q p ≡ true → wide p ≡ true
  pub least : (h : ℕ → Bool) → ((q : ℕ) → f q ≡ true → h q ≡ true)
      → ((q p : ℕ) → q < n → h q ≡ true → adds q p ≡ true → h p ≡ true)
      → (q : ℕ) → wide q ≡ true → h q ≡ true

-- the set holds the targets, and the states from which some trace leads into them
abbrev pub Reaching : Automaton → StateSet → StateSet → Type 0
Reaching g targets r =
    (p : ℕ) → member r p ≡ (member targets p || (ltb p g.states && leads g (member targets) p))
