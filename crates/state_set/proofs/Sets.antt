-- A set stored in an array, and an array of one set many times.
use mathlib.Core.Path.{◌≡◌}
use mathlib.Core.List.{List}
use Prim.Native.Nat.{ℕ, ◌<◌}
use lib.ListN.{length, set, replicate, length-set, get_or-replicate}
use lib.Seq.{get_or-set_same, get_or-set_other}
use Rattle.state_set.specs.declared.StateSet.{StateSet}
use Rattle.state_set.specs.Member.{member, no_states, set_at, Put}

pub set_put : (sets : List StateSet) (i : ℕ) (s : StateSet) → i < length sets → Put sets i (member s) (set sets i s)
set_put sets i s l = record {
  size = length-set sets i s;
  here = λ q. rw (get_or-set_same sets i s no_states l);
  elsewhere = λ j q ne. rw (get_or-set_other sets i j s no_states ne);
}

pub set_all : (size : ℕ) (s : StateSet) (i q : ℕ) → i < size → set_at (replicate size s) i q ≡ member s q
set_all size s i q l = rw (get_or-replicate {A = StateSet} size i s no_states l)
