-- What every kind has in common, by its rank.
use mathlib.Core.Path.{◌≡◌, refl, ap, ◌∙◌}
use mathlib.Core.List.{[], ◌∷◌}
use Prim.Native.Nat.{ℕ, zero, suc, ◌^◌, ◌≤◌, ◌<◌}
use native.Mathlib.Nat.{mod-eq_of_lt}
use native.Mathlib.Omega.{arith}
use lib.ListN.{get_or}
use lib.Pow.{lt_of_le_ones}
use Rattle.theory.specs.Faults.{kinds, all_faults, seconds}
use Rattle.faults.specs.declared.Kind.{Kind}
use Rattle.faults.specs.declared.Kind.TheVariants.{Loss, Corruption, Repeat, Swap}
use Rattle.faults.specs.Kinds.{rank_of, kind_of, bit_of, set_of}

-- the bit of a kind by its rank
pub bit_is : (kind : Kind) → bit_of kind ≡ 2 ^ rank_of kind
bit_is Loss = refl
bit_is Corruption = refl
bit_is Repeat = refl
bit_is Swap = refl

pub rank_in : (kind : Kind) → rank_of kind < kinds
rank_in Loss = omega arith
rank_in Corruption = omega arith
rank_in Repeat = omega arith
rank_in Swap = omega arith

-- ranks from 3 on stand for the last kind
pub kind_last : (rank : ℕ) → 2 < rank → Swap ≡ kind_of rank
kind_last zero l = absurd (omega arith)
kind_last (suc zero) l = absurd (omega arith)
kind_last (suc (suc zero)) l = absurd (omega arith)
kind_last (suc (suc (suc c))) l = refl

-- the kind of a rank has the rank
rank_is : (rank : ℕ) → rank < kinds → rank_of (kind_of rank) ≡ rank
rank_is zero l = refl
rank_is (suc zero) l = refl
rank_is (suc (suc zero)) l = refl
rank_is (suc (suc (suc zero))) l = refl
rank_is (suc (suc (suc (suc c)))) l = absurd (omega arith)

pub ranked : {kind : Kind} {rank : ℕ} → kind ≡ kind_of rank → rank < kinds → rank_of kind ≡ rank
ranked {rank = rank} e l = ap rank_of e ∙ rank_is rank l

-- the list of the kinds has at each rank the kind of the rank
pub listed_kind : (i : ℕ) (d : Kind) → i < kinds → get_or (Loss ∷ Corruption ∷ Repeat ∷ Swap ∷ []) i d ≡ kind_of i
listed_kind zero d l = refl
listed_kind (suc zero) d l = refl
listed_kind (suc (suc zero)) d l = refl
listed_kind (suc (suc (suc zero))) d l = refl
listed_kind (suc (suc (suc (suc i)))) d l = absurd (omega arith)

-- the kinds stand in the order of their ranks
pub listed_rank : (i : ℕ) (d : Kind) → i < kinds → rank_of (get_or (Loss ∷ Corruption ∷ Repeat ∷ Swap ∷ []) i d) ≡ i
listed_rank i d l = ranked (listed_kind i d l) l

-- a set of faults stands for itself
pub set_is : {bits number : ℕ} → bits ≡ set_of number → number ≤ all_faults → bits ≡ number
set_is e l = e ∙ mod-eq_of_lt (lt_of_le_ones kinds l)

-- a replacement or a neighbour is a symbol
pub second_in : (rank : ℕ) {k a b : ℕ} → a < k → b < seconds rank k → b < k
second_in zero l h = omega arith
second_in (suc zero) l h = h
second_in (suc (suc zero)) l h = omega arith
second_in (suc (suc (suc zero))) l h = h
second_in (suc (suc (suc (suc rank)))) l h = absurd (omega arith)

-- and there is one, where there is a symbol
pub second_some : (rank : ℕ) {k : ℕ} → rank < kinds → 0 < k → 0 < seconds rank k
second_some zero low l = omega arith
second_some (suc zero) low l = l
second_some (suc (suc zero)) low l = omega arith
second_some (suc (suc (suc zero))) low l = l
second_some (suc (suc (suc (suc rank)))) low l = absurd (omega arith)
