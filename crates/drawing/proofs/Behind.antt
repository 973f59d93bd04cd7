-- A run has a place at least: what is first found to be other stands behind it.
use Rattle.std.proofs.Common.{◌≡◌, refl, ap, sym, ◌∙◌, arith, ℕ, List, length, not, ◌<◌, ◌-◌, inl, inr}
use borrow.Author.Tests.{eq-eqb}
use Rattle.theory.specs.Below.{first}
use Rattle.theory.proofs.Below.{clash, lt_or_le, first_ge, first_here}
use Rattle.drawing.specs.Runs.{other_at}

pub behind : (l : List ℕ) (at : ℕ) → at < length l → at < first (other_at l at) at (length l - at)
behind l at h =
    elim (lt_or_le at (first (other_at l at) at (length l - at))) [
      | inl less ↦ less
      | inr more ↦
          (let same : first (other_at l at) at (length l - at) ≡ at = omega (arith, more, first_ge (other_at l at) at (length l - at)) in
          let found = first_here (other_at l at) at (length l - at) (omega (arith, h, same)) in
          absurd (clash (sym (ap (other_at l at) same) ∙ found) (ap not (eq-eqb _ _ refl))))
    ]
