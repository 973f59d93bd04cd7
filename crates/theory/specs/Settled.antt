-- Settled marks (02, note 5): what a mark counts as where nothing else can come. They stand here twice: by series of
-- messages, and as numbers that compute. proofs/Settled.antt shows that the two say the same.
use Rattle.std.specs.Prelude.{◌≡◌, Bool, true, false, List, ◌⊎◌, ℕ, zero, suc, ◌<◌, eqb, length}
use Rattle.theory.specs.Automaton.{Automaton, Trace, run, inevitable}

module _ (g : Automaton) (drawn : ℕ → ℕ) where
  -- "for some number, every message series of that length leads from it to a true mark; false likewise": from q to v
  pub record Settles (v q : ℕ) : Type 0 where
    pub number : ℕ
    pub ends : (w : List ℕ) → Trace g w → length w ≡ number → drawn (run g q w) ≡ v

  -- "a not-yet state counts as true if [..]; false likewise": what the mark of q counts as
  pub data CountsAs (q : ℕ) : ℕ → Type 0 where
    as_drawn : 0 < drawn q → CountsAs q (drawn q)
    settled_true : drawn q ≡ 0 → Settles 1 q → CountsAs q 1
    settled_false : drawn q ≡ 0 → Settles 2 q → CountsAs q 2
    not_yet : drawn q ≡ 0 → ¬ (Settles 1 q) → ¬ (Settles 2 q) → CountsAs q 0

-- what the mark v counts as, by whether true and whether false is settled
abbrev pub settled_from : ℕ → Bool → Bool → ℕ
settled_from zero true f = 1
settled_from zero false true = 2
settled_from zero false false = 0
settled_from (suc v) t f = suc v

-- what the mark of q counts as
unfoldable pub settled_mark : Automaton → (ℕ → ℕ) → ℕ → ℕ
settled_mark g drawn q =
    settled_from (drawn q) (inevitable g (λ p. eqb (drawn p) 1) q) (inevitable g (λ p. eqb (drawn p) 2) q)

-- what a class may become by settling: itself; from positive, good; from negative, bad
abbrev pub Becomes : ℕ → ℕ → Type 0
Becomes c d = (d ≡ c) ⊎ (((c ≡ 2) × (d ≡ 0)) ⊎ ((c ≡ 3) × (d ≡ 1)))
