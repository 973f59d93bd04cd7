-- States that have one number after the search are never told apart: the blocks are those of the table.
use mathlib.Core.Path.{◌≡◌, sym, ap, ◌∙◌}
use mathlib.Core.Bool.{not}
use mathlib.Core.List.{List}
use Prim.Native.Nat.{ℕ, ◌≤◌, ◌<◌}
use native.Mathlib.Omega.{arith}
use lib.Dec.{eqb}
use lib.ListN.{length, get_or}
use borrow.Author.Tests.{eqb-true, eqb-false, eq-eqb, not-true}
use Rattle.theory.specs.Automaton.{run}
use Rattle.theory.specs.Monitor.{Monitor, WellFormed, state_limit, reading}
use Rattle.theory.specs.Certificate.{NeverApart, block_of, same_block, alike, lowest_alike}
use Rattle.theory.proofs.Below.{both_ways, is_true, first_same}
use Rattle.theory.proofs.Reach.{run_in}
use Rattle.theory.proofs.Certificate.{alike_exact}
use Rattle.square.specs.declared.Test.TheVariants.{Differ}
use Rattle.square.specs.Square.{never, entry, passing, Squared}
use Rattle.partition.specs.declared.Blocks.{Blocks}
use Rattle.partition.specs.Blocks.{block, Partition}
use Rattle.partition.proofs.Splits.{blocks_few}
use Rattle.certificate.specs.Agreeing.{Numbered, lowest_in}
use Rattle.certificate.proofs.Lowest.{lowest_upto}

-- the numbers of the search are block numbers of n states
module _ {n : ℕ} {square numbers : List ℕ} {blocks : Blocks} (P : Partition n square blocks) (long : length numbers ≡ n)
    (each : (q : ℕ) → q < n → block_of numbers q ≡ block blocks q) where
  pub blocks_numbered : Numbered state_limit n numbers
  blocks_numbered = record { most = P.few; size = long; below = λ q l. omega (arith, each q l, P.below q l, blocks_few P) }

-- outs holds what every state reads, and the square has the distances of the pairs by it
module _ {limit : ℕ} {m : Monitor} (w : WellFormed limit m) (d : ℕ) (outs square : List ℕ)
    (read : (q : ℕ) → q < m.automaton.states → get_or outs q 0 ≡ reading m d q)
    (squared : Squared m.automaton (passing Differ outs) square) where
  abbrev n : ℕ
  n = m.automaton.states

  module _ (p q : ℕ) (lp : p < n) (lq : q < n) where
    never_apart : entry square p q ≡ never → NeverApart m d p q
    never_apart e v t =
        let x = run m.automaton p v in
        let y = run m.automaton q v in
        let lx = run_in w.closed p v lp t in
        let ly = run_in w.closed q v lq t in
        sym (read x lx)
        ∙ eqb-true (get_or outs x 0) (get_or outs y 0) (is_true (λ h. (squared.noted p q lp lq).none e v (record { trace = t; apart = ap not h })))
        ∙ read y ly

    apart_never : NeverApart m d p q → entry square p q ≡ never
    apart_never h =
        let noted = squared.noted p q lp lq in
        let above : entry square p q < never → ⊥ = λ l. (
        let s = noted.found l in
        let x = run m.automaton p s.word in
        let y = run m.automaton q s.word in
        let t = s.has.trace in
        eqb-false (get_or outs x 0) (get_or outs y 0) (not-true (eqb (get_or outs x 0) (get_or outs y 0)) s.has.apart)
        (read x (run_in w.closed p s.word lp t) ∙ h s.word t ∙ sym (read y (run_in w.closed q s.word lq t)))) in
        eqb-true (entry square p q) never (is_true (λ e. above (below noted.most (eqb-false (entry square p q) never e))))
      where
        below : {x y : ℕ} → x ≤ y → (x ≡ y → ⊥) → x < y
        below l ne = omega (arith, l, ne)

    untold : eqb (entry square p q) never ≡ alike m d p q
    untold =
        both_ways
        (λ e. (alike_exact w d p q lp lq).1 (never_apart (eqb-true (entry square p q) never e)))
        (λ e. eq-eqb (entry square p q) never (apart_never ((alike_exact w d p q lp lq).0 e)))

  module _ (numbers : List ℕ) {blocks : Blocks} (P : Partition n square blocks) (long : length numbers ≡ n)
      (each : (q : ℕ) → q < n → block_of numbers q ≡ block blocks q) where
    same_block_lem : (p q : ℕ) → p < n → q < n → same_block numbers p q ≡ alike m d p q
    same_block_lem p q lp lq = rw (each p lp, each q lq) (sym (P.together p q lp lq) ∙ untold p q lp lq)

    pub lowest_is : (q : ℕ) → q < n → lowest_in numbers q ≡ lowest_alike m d q
    lowest_is q l =
        sym (lowest_upto numbers q (omega (arith, l, long)))
        ∙ first_same (λ p. same_block numbers p q) (λ p. alike m d p q) 0 q (λ p _ h. same_block_lem p q (omega (arith, h, l)) l)
