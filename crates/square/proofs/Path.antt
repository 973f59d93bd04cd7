-- The first of the shortest traces that tell two states apart, read off the square.
use mathlib.Core.Path.{◌≡◌, refl, sym, ap, ◌∙◌}
use mathlib.Core.Bool.{Bool, true, false, cond}
use mathlib.Core.List.{List, [], ◌∷◌, map}
use mathlib.Core.Logic.{⊎_elim}
use mathlib.Core.Option.{some}
use Prim.Native.Nat.{ℕ, zero, suc, ◌≤◌, ◌<◌, zero-le}
use native.Mathlib.Nat.{lt_of_le_of_lt}
use native.Mathlib.Omega.{arith}
use lib.Dec.{eqb}
use lib.ListN.{length}
use borrow.Author.Tests.{eq-eqb, eqb-true, eqb-false}
use Rattle.theory.specs.Automaton.{Automaton, Closed, Trace, run}
use Rattle.theory.specs.Lists.{find}
use Rattle.theory.specs.Series.{words}
use Rattle.theory.specs.Extent.{number, missing, ShortestLength}
use Rattle.theory.specs.Pairs.{Tells, PairDistance}
use Rattle.theory.proofs.Below.{clash, not_clash, both_ways, lt_or_le, first_below, first_here}
use Rattle.theory.proofs.Lists.{find_none, find_each, find_map, find_map_none}
use Rattle.theory.proofs.Series.{words_in}
use Rattle.theory.proofs.Pairs.{tells_step, tells_rest, tells_ends, tells_same}
use Rattle.square.specs.Square.{never, entry, extent, Noted, Squared, apart_at_once, nearer, Falling, path}

-- a list with the property is at least as long as noted
pub noted_least : {P : List ℕ → Type 0} {e : ℕ} → Noted P e → (w : List ℕ) → P w → e ≤ length w
noted_least {e = e} s w h = ⊎_elim (λ l. (s.found l).least w h) (λ l. absurd (s.none (omega (arith, s.most)) w h)) (lt_or_le e never)

-- an entry stands for the length of the shortest list with the property, or for there being none
pub noted_extent : {P : List ℕ → Type 0} (e : ℕ) → Noted P e → ShortestLength P (extent e)
noted_extent {P} e s = go (eqb e never) refl
  where
    go : (b : Bool) → eqb e never ≡ b → ShortestLength P (cond b missing (number e))
    go true h = s.none (eqb-true e never h)
    go false h = s.found (⊎_elim (λ l. l) (λ l. absurd (eqb-false e never h (omega (arith, s.most)))) (lt_or_le e never))

-- the square holds the distance of every pair
pub square_exact : {g : Automaton} {ends : ℕ → ℕ → Bool} {square : List ℕ} → Squared g ends square → (p q : ℕ) → p < g.states → q < g.states
    → PairDistance g ends p q (extent (entry square p q))
square_exact {square = square} s p q lp lq = noted_extent (entry square p q) (s.noted p q lp lq)

-- only the test on states matters
pub squared_same : {g : Automaton} {f h : ℕ → ℕ → Bool} {square : List ℕ} → Closed g → ((p q : ℕ) → p < g.states → q < g.states → f p q ≡ h p q)
    → Squared g f square
    → Squared g h square
squared_same {g} {f} {h} {square} c e s = record { size = s.size; noted = λ p q lp lq. noted p q lp lq (s.noted p q lp lq) }
  where
    noted : (p q : ℕ) → p < g.states → q < g.states → Noted (Tells g f p q) (entry square p q) → Noted (Tells g h p q) (entry square p q)
    noted p q lp lq x = record {
      most = x.most;
      found = λ l. (let y = x.found l in
          record { word = y.word; has = tells_same g f h c e p q y.word lp lq y.has; long = y.long; least = λ v t. y.least v (back v t) });
      none = λ z v t. x.none z v (back v t);
    }
      where
        back : (v : List ℕ) → Tells g h p q v → Tells g f p q v
        back v t = tells_same g h f c (λ i j li lj. sym (e i j li lj)) p q v lp lq t

-- what the square has at 0 are the pairs that pass the test
pub at_once : {g : Automaton} {ends : ℕ → ℕ → Bool} {square : List ℕ} → Squared g ends square → (p q : ℕ) → p < g.states → q < g.states
    → apart_at_once square p q ≡ ends p q
unfolding Trace run
at_once {g} {ends} {square} s p q lp lq = both_ways (λ h. (let e = eqb-true (entry square p q) 0 h in
    let w = here.found (omega (arith, e)) in go w.word (w.long ∙ e) w.has))
    (λ h. (let l = noted_least here [] (record { trace = tt; apart = h }) in eq-eqb (entry square p q) 0 (omega (arith, l))))
  where
    here : Noted (Tells g ends p q) (entry square p q)
    here = s.noted p q lp lq

    go : (w : List ℕ) → length w ≡ 0 → Tells g ends p q w → ends p q ≡ true
    go [] el t = tells_ends g ends p q t
    go (a ∷ w) el t = absurd (omega arith)

-- so it is the square of that test of two states
pub squared_at_once : {g : Automaton} {ends : ℕ → ℕ → Bool} {square : List ℕ} → Closed g → Squared g ends square → Squared g (apart_at_once square) square
squared_at_once c s = squared_same c (λ p q lp lq. sym (at_once s p q lp lq)) s

module _ (g : Automaton) (square : List ℕ) (e p q : ℕ) where
  -- the symbol leads from p and q to a pair with the entry e
  abbrev pub leads_to : ℕ → Bool
  leads_to a = eqb (entry square (g.next p a) (g.next q a)) e

  pub leads_as : {x y r : ℕ} {b : Bool} (a : ℕ) → x ≡ g.next p a → y ≡ g.next q a → r ≡ entry square x y → eqb r e ≡ b → leads_to a ≡ b
  leads_as a ex ey er h = rw (← ex, ← ey, ← er) h

  pub nearer_least : (a : ℕ) → entry square (g.next p a) (g.next q a) ≡ e → nearer g square e p q ≤ a
  nearer_least a h =
      ⊎_elim (λ l. absurd (clash (eq-eqb (entry square (g.next p a) (g.next q a)) e h) (first_below leads_to 0 g.symbols a zero-le l))) (λ l. l)
      (lt_or_le a (nearer g square e p q))

  pub nearer_leads : nearer g square e p q < g.symbols → entry square (g.next p (nearer g square e p q)) (g.next q (nearer g square e p q)) ≡ e
  nearer_leads l =
      eqb-true (entry square (g.next p (nearer g square e p q)) (g.next q (nearer g square e p q))) e (first_here leads_to 0 g.symbols (omega arith))

-- whether a trace tells p and q apart
abbrev pub apart_by : Automaton → (ℕ → ℕ → Bool) → ℕ → ℕ → List ℕ → Bool
apart_by g ends p q w = ends (run g p w) (run g q w)

pub path_length : (g : Automaton) (square : List ℕ) (e p q : ℕ) → length (path g square e p q) ≡ e
unfolding path
path_length g square zero p q = refl
path_length g square (suc e) p q = ap suc (path_length g square e (g.next p (nearer g square e p q)) (g.next q (nearer g square e p q)))

module _ {g : Automaton} {ends : ℕ → ℕ → Bool} {square : List ℕ} (c : Closed g) (s : Squared g ends square) where
  noted_after : (p q a : ℕ) → p < g.states → q < g.states → a < g.symbols
      → Noted (Tells g ends (g.next p a) (g.next q a)) (entry square (g.next p a) (g.next q a))
  noted_after p q a lp lq la = s.noted (g.next p a) (g.next q a) (c.next_in p a lp la) (c.next_in q a lq la)

  -- after a symbol at most one fewer is needed
  pub entry_after : (p q a : ℕ) → p < g.states → q < g.states → a < g.symbols → entry square p q ≤ suc (entry square (g.next p a) (g.next q a))
  entry_after p q a lp lq la =
      let here = s.noted p q lp lq in
      let there = noted_after p q a lp lq la in
      ⊎_elim
      (λ l. (let w = there.found l in omega (arith, w.long, noted_least here (a ∷ w.word) (tells_step g ends p q a w.word la w.has))))
      (λ l. omega (arith, here.most))
      (lt_or_le (entry square (g.next p a) (g.next q a)) never)

  pub squared_falls : Falling g square
  squared_falls = record { falls = λ p q e lp lq h l. (let w = (s.noted p q lp lq).found (omega arith) in go p q e lp lq h w.word (w.long ∙ h) w.has) }
    where
      go : (p q e : ℕ) → p < g.states → q < g.states → entry square p q ≡ suc e → (w : List ℕ) → length w ≡ suc e → Tells g ends p q w
          → nearer g square e p q < g.symbols
      go p q e lp lq h [] el t = absurd (omega arith)
      go p q e lp lq h (a ∷ w) el t =
          let r = tells_rest g ends p q a w t in
          let least = noted_least (noted_after p q a lp lq r.0) w r.1 in
          lt_of_le_of_lt (nearer_least g square e p q a (omega (arith, least, entry_after p q a lp lq r.0))) r.0

  pub path_tells : (e p q : ℕ) → p < g.states → q < g.states → entry square p q ≡ e → e < never → Tells g ends p q (path g square e p q)
  unfolding path
  path_tells zero p q lp lq h l = (let w = (s.noted p q lp lq).found (omega arith) in go w.word (w.long ∙ h) w.has)
    where
      go : (w : List ℕ) → length w ≡ 0 → Tells g ends p q w → Tells g ends p q []
      go [] el t = t
      go (a ∷ w) el t = absurd (omega arith)
  path_tells (suc e) p q lp lq h l =
      let a = nearer g square e p q in
      let la : a < g.symbols = squared_falls.falls p q e lp lq h l in
      tells_step g ends p q a (path g square e (g.next p a) (g.next q a)) la
      (path_tells e (g.next p a) (g.next q a) (c.next_in p a lp la) (c.next_in q a lq la) (nearer_leads g square e p q la) (omega arith))

  -- before the nearer symbol, no trace of e symbols tells the two states reached apart
  nothing_sooner : (e p q a : ℕ) → p < g.states → q < g.states → entry square p q ≡ suc e → a < g.symbols → a < nearer g square e p q
      → (w : List ℕ) → Trace g w → length w ≡ e → apart_by g ends (g.next p a) (g.next q a) w ≡ false
  nothing_sooner e p q a lp lq h la l w t el =
      not_clash (λ b.
      let most = noted_least (noted_after p q a lp lq la) w (record { trace = t; apart = b }) in
      omega (arith, l, nearer_least g square e p q a (omega (arith, h, el, most, entry_after p q a lp lq la))))

  -- of the traces of e symbols, in order, the path is the first that tells p and q apart
  pub path_first : (e p q : ℕ) → p < g.states → q < g.states → entry square p q ≡ e → e < never
      → find (apart_by g ends p q) (words g.symbols e) ≡ some (path g square e p q)
  unfolding path words find run
  path_first zero p q lp lq h l = rw (tells_ends g ends p q (path_tells zero p q lp lq h l))
  path_first (suc e) p q lp lq h l =
      let a = nearer g square e p q in
      let la : a < g.symbols = squared_falls.falls p q e lp lq h l in
      find_each (apart_by g ends p q) g.symbols (λ b. map (λ (w : List ℕ). b ∷ w) (words g.symbols e)) a la
      (λ b lb.
      find_map_none (apart_by g ends p q) (λ (w : List ℕ). b ∷ w) (words g.symbols e)
      (find_none (apart_by g ends (g.next p b) (g.next q b)) (words g.symbols e)
      (λ w i. (let t = words_in g e w i in nothing_sooner e p q b lp lq h (omega (arith, la, lb)) lb w t.0 t.1))))
      (find_map (apart_by g ends p q) (λ (w : List ℕ). a ∷ w) (words g.symbols e)
      (path_first e (g.next p a) (g.next q a) (c.next_in p a lp la) (c.next_in q a lq la) (nearer_leads g square e p q la) (omega arith)))
