-- Lengths of shortest lists: there is only one; a wider property has none greater; either of two properties has the smaller.
use mathlib.Core.Path.{◌≡◌, refl, ap}
use mathlib.Core.List.{List}
use mathlib.Core.Logic.{◌⊎◌, ⊎_elim}
use Prim.Native.Nat.{ℕ, ◌≤◌, ◌<◌, min}
use native.Mathlib.Nat.{le_antisymm}
use native.Mathlib.Omega.{arith}
use lib.ListN.{length}
use Rattle.theory.specs.Extent.{Extent, number, missing, Shortest, ShortestLength, smaller, AtMost}
use Rattle.theory.proofs.Below.{lt_or_le}

pub shortest_one : (P : List ℕ → Type 0) (e f : Extent) → ShortestLength P e → ShortestLength P f → e ≡ f
shortest_one P missing missing a b = refl
shortest_one P missing (number m) a b = absurd (a b.word b.has)
shortest_one P (number l) missing a b = absurd (b a.word a.has)
shortest_one P (number l) (number m) a b =
    let u : l ≤ m = (let x = a.least b.word b.has in let y = b.long in omega (arith, x, y)) in
    let v : m ≤ l = (let x = b.least a.word a.has in let y = a.long in omega (arith, x, y)) in
    ap number (le_antisymm u v)

module _ (P Q : List ℕ → Type 0) where
  -- what has P has Q
  pub shortest_wider : ((w : List ℕ) → P w → Q w) → (e f : Extent) → ShortestLength P e → ShortestLength Q f → AtMost f e
  shortest_wider over missing f a b = tt
  shortest_wider over (number l) missing a b = b a.word (over a.word a.has)
  shortest_wider over (number l) (number m) a b = (let x = b.least a.word (over a.word a.has) in let y = a.long in omega (arith, x, y))

  -- and what has Q has one with P that is not longer
  pub shortest_same : ((w : List ℕ) → P w → Q w) → ((w : List ℕ) → Q w → (v : List ℕ) × P v × (length v ≤ length w)) → (e : Extent) → ShortestLength P e
      → ShortestLength Q e
  shortest_same over back missing a = λ w h. (let v = back w h in a v.0 v.1)
  shortest_same over back (number l) a = record {
    word = a.word;
    has = over a.word a.has;
    long = a.long;
    least = λ w h. (let v = back w h in let x = a.least v.0 v.1 in omega (arith, x, v.2));
  }

  -- R is either of the two
  module _ (R : List ℕ → Type 0) (left : (w : List ℕ) → P w → R w) (right : (w : List ℕ) → Q w → R w) (either : (w : List ℕ) → R w → P w ⊎ Q w) where
    only_left : (l : ℕ) → Shortest P l → ((w : List ℕ) → Q w → l ≤ length w) → Shortest R l
    only_left l a above = record { word = a.word; has = left a.word a.has; long = a.long; least = λ w h. ⊎_elim (a.least w) (above w) (either w h) }

    only_right : (m : ℕ) → Shortest Q m → ((w : List ℕ) → P w → m ≤ length w) → Shortest R m
    only_right m b above = record { word = b.word; has = right b.word b.has; long = b.long; least = λ w h. ⊎_elim (above w) (b.least w) (either w h) }

    pub shortest_either : (e f : Extent) → ShortestLength P e → ShortestLength Q f → ShortestLength R (smaller e f)
    shortest_either missing missing a b = λ w h. ⊎_elim (a w) (b w) (either w h)
    shortest_either missing (number m) a b = only_right m b (λ w h. absurd (a w h))
    shortest_either (number l) missing a b = only_left l a (λ w h. absurd (b w h))
    shortest_either (number l) (number m) a b =
        ⊎_elim
        (λ (s : l < m). (let e : min l m ≡ l = omega arith in rw e (only_left l a (λ w h. (let x = b.least w h in omega (arith, x))))))
        (λ (s : m ≤ l). (let e : min l m ≡ m = omega arith in rw e (only_right m b (λ w h. (let x = a.least w h in omega (arith, x))))))
        (lt_or_le l m)
