-- The path written symbol by symbol: part written, part to come.
use mathlib.Core.Path.{◌≡◌}
use mathlib.Core.List.{List}
use Prim.Native.Nat.{ℕ, suc, ◌+◌, ◌≤◌, ◌<◌}
use native.Mathlib.Nat.{add-suc}
use native.Mathlib.Numerals.{add-one}
use native.Mathlib.Omega.{arith}
use lib.ListN.{length, set, length-set}
use lib.Seq.{sets}
use Rattle.theory.specs.Automaton.{Automaton, Closed, run}
use Rattle.square.specs.Square.{never, entry, nearer, Falling, path, apart}
use Rattle.square.proofs.Path.{nearer_leads}

-- begun at p and q with the area `start`, to be written from `at` on; now at x and y, with i symbols written and `left` still to be written
pub record Walk (g : Automaton) (square : List ℕ) (p q : ℕ) (start : List ℕ) (at : ℕ) (area : List ℕ) (x y i left : ℕ) : Type 0 where
  pub first_in : x < g.states
  pub second_in : y < g.states
  pub here : entry square x y ≡ left
  pub told : left < never
  pub room : at + i + left ≤ length area
  pub written : sets area (at + i) (path g square left x y) ≡ sets start at (apart g square p q)
  pub first_goes : run g x (path g square left x y) ≡ run g p (apart g square p q)
  pub second_goes : run g y (path g square left x y) ≡ run g q (apart g square p q)

module _ {g : Automaton} {square : List ℕ} {p q : ℕ} {start : List ℕ} {at : ℕ} {area : List ℕ} {x y i left : ℕ}
    (w : Walk g square p q start at area x y i left) where
  pub walk_ends : left ≤ 0 → (area ≡ sets start at (apart g square p q)) × (x ≡ run g p (apart g square p q)) × (y ≡ run g q (apart g square p q))
  unfolding path run
  walk_ends l = (let e : left ≡ 0 = omega arith in let z : Walk g square p q start at area x y i 0 = rw e at w in (z.written, z.first_goes, z.second_goes))

  module _ (f : Falling g square) {rest : ℕ} (l : left ≡ suc rest) where
    one_more : Walk g square p q start at area x y i (suc rest)
    one_more = rw l at w

    walk_nearer : nearer g square rest x y < g.symbols
    walk_nearer = f.falls x y rest w.first_in w.second_in one_more.here one_more.told

    pub walk_goes_on : Closed g → {a x' y' : ℕ} → a ≡ nearer g square rest x y → x' ≡ g.next x a → y' ≡ g.next y a
        → Walk g square p q start at (set area (at + i) a) x' y' (i + 1) rest
    unfolding path run
    walk_goes_on c ea ex ey =
        rw (ex, ey, ea)
        (record {
          first_in = c.next_in x _ w.first_in walk_nearer;
          second_in = c.next_in y _ w.second_in walk_nearer;
          here = nearer_leads g square rest x y walk_nearer;
          told = omega (arith, w.told);
          room = rw length-set (omega (arith, w.room));
          written = rw (add-one, add-suc) one_more.written;
          first_goes = one_more.first_goes;
          second_goes = one_more.second_goes;
        })
