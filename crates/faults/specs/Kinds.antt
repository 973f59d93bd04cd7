-- The kinds of fault as the code names them.
use Rattle.std.specs.Prelude.{ℕ, zero, suc, ◌%◌, ◌^◌}
use Rattle.theory.specs.Faults.{kinds}
use Rattle.faults.specs.declared.Kind.{Kind}
use Rattle.faults.specs.declared.Kind.TheVariants.{Loss, Corruption, Repeat, Swap}

-- the rank of a kind in the written order: "by kind (loss, corruption, repeat, swap)"
abbrev pub rank_of : Kind → ℕ
rank_of Loss = 0
rank_of Corruption = 1
rank_of Repeat = 2
rank_of Swap = 3

-- the kind of a rank; a rank that is no kind's counts as the last
abbrev pub kind_of : ℕ → Kind
kind_of zero = Loss
kind_of (suc zero) = Corruption
kind_of (suc (suc zero)) = Repeat
kind_of (suc (suc (suc c))) = Swap

-- "Each fault has its fixed bit: loss 1, corruption 2, repeat 4, swap 8"
abbrev pub bit_of : Kind → ℕ
bit_of Loss = 1
bit_of Corruption = 2
bit_of Repeat = 4
bit_of Swap = 8

-- the set that a number stands for: the bits of the kinds that the number has, and no other
abbrev pub set_of : ℕ → ℕ
set_of number = number % 2 ^ kinds
