-- What questions 14 and 15 answered yes leave of the block numbers.
use mathlib.Core.Path.{◌≡◌, sym, subst}
use mathlib.Core.List.{List, [], ◌∷◌}
use Prim.Native.Nat.{ℕ, ◌≤◌}
use native.Mathlib.Omega.{arith}
use lib.ListN.{length}
use borrow.Author.Tests.{eqb-true}
use Rattle.theory.specs.Answer.{answered, asks}
use Rattle.theory.proofs.Answer.{asks_yes}
use Rattle.monitor.specs.Questions.{first_not_below, no_values}
use Rattle.monitor.proofs.Body.{all_below}
use Rattle.certificate.specs.Questions.{question14, question15}
use Rattle.certificate.specs.Agreeing.{Numbered}

-- questions 14 and 15 leave a block number below n for every state
pub numbered_of : {limit n : ℕ} {c : List ℕ} → n ≤ limit → asks (question14 n c ∷ question15 n c ∷ []) no_values ≡ answered no_values
    → Numbered limit n c
numbered_of {n} {c} most e =
    let y = asks_yes (question14 n c) (question15 n c ∷ []) no_values e in
    let z = asks_yes (question15 n c) [] no_values y.1 in
    let size = eqb-true (length c) n y.0 in
    record { most = most; size = size; below = λ q l. all_below n c (eqb-true (first_not_below n c) (length c) z.0) q (omega (arith, size, l)) }

-- the numbers of a table are as many as they are
pub numbered_whole : {limit n : ℕ} {c : List ℕ} → Numbered limit n c → Numbered limit (length c) c
numbered_whole {limit} {n} {c} h = subst (λ (l : ℕ). Numbered limit l c) (sym h.size) h
