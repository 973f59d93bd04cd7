-- Sets gathered state by state: predecessors, and what leads into a set; entries of a row made one by one.
use mathlib.Core.Path.{◌≡◌, refl, sym, ◌∙◌}
use mathlib.Core.Bool.{Bool, true, false, cond, not, ◌&&◌, ◌||◌, or-false}
use mathlib.Core.List.{List, ◌++◌}
use mathlib.Core.Logic.{⊎_elim}
use Prim.Native.Nat.{ℕ, ◌+◌, ◌*◌, ◌/◌, ◌≤◌, ◌<◌}
use native.Mathlib.Omega.{arith}
use lib.Dec.{eqb, ltb}
use lib.ListN.{length, set, replicate, length-set, length-append, length-replicate, get_or-append}
use lib.Seq.{get_or-set_same, get_or-set_other}
use borrow.Author.Tests.{eq-eqb, ne_eqb, eqb-true, eqb-false, lt-ltb, le-ltb}
use Rattle.theory.specs.Automaton.{Automaton, Closed}
use Rattle.theory.specs.Monitor.{state_limit, symbol_limit}
use Rattle.theory.specs.Below.{any}
use Rattle.theory.proofs.Below.{clash, both_ways, any_at, any_find, lt_or_le, and_right}
use Rattle.state_set.specs.declared.StateSet.{StateSet}
use Rattle.state_set.specs.Member.{is_part, member, no_states, set_at}
use Rattle.state_set.specs.Placing.{Placed}
use Rattle.state_set.proofs.Sets.{set_all}
use Rattle.square.specs.Square.{place, HasRows, entry}
use Rattle.rows.specs.declared.search.Fresh.{Fresh}
use Rattle.rows.specs.Searching.{Bare}
use Rattle.rows.specs.Sets.{Empty, Preceding, leading, Into, Within, Entered}

-- ---- predecessors

-- the first sets, which are all one empty set
pub empty_filled : (n m : ℕ) (rest : List StateSet) (none : StateSet) {sets : List StateSet} → m ≡ n → ((q : ℕ) → member none q ≡ false)
    → sets ≡ replicate m none → Empty n (sets ++ rest)
empty_filled n m rest none e empty z = rw z (record {
  size = rw (length-append (replicate m none) rest, length-replicate m none, e) (omega arith);
  none = λ p q l. rw (get_or-append (replicate m none) rest no_states p (rw (length-replicate m none) (omega (arith, l, e)))) (at p q (omega (arith, l, e)));
})
  where
    at : (p q : ℕ) → p < m → set_at (replicate m none) p q ≡ false
    at p q l = set_all m none p q l ∙ empty q

-- and so are those of an array as it is made
pub empty_sets : (n size : ℕ) (none : StateSet) → n ≤ size → ((q : ℕ) → member none q ≡ false) → Empty n (replicate size none)
empty_sets n size none room empty = record {
  size = rw (length-replicate size none) room;
  none = λ p q l. set_all size none p q (omega (arith, l, room)) ∙ empty q;
}

-- of fewer states none is fresh either
pub bare_fewer : {n m : ℕ} {fresh : Fresh} → n ≤ m → Bare m fresh → Bare n fresh
bare_fewer l B = record {
  sets = record { size = (let s = B.sets.size in omega (arith, s, l)); none = λ p q lp. B.sets.none p q (omega (arith, lp, l)) };
  rows = B.rows;
}

-- for each state and symbol the set has the states that were put there
pub preceding_placed : {g : Automaton} {before after : List StateSet} → g.symbols ≤ symbol_limit → Empty (g.states * symbol_limit) before
    → Placed (λ p a. g.next p a * symbol_limit + a) g.symbols (λ p. ltb p g.states) before after → Preceding g (λ p a. ltb p g.states) after
preceding_placed {g} few E P = record {
  size = rw P.size E.size;
  at = λ x a p lx la. P.at (x * symbol_limit + a) p
      ∙ rw (E.none (x * symbol_limit + a) p (omega (arith, lx, la, few)), one p x a la);
}
  where
    -- of the sets that p was put into, one is of symbol a
    one : (p x a : ℕ) → a < g.symbols → any g.symbols (λ b. eqb (x * symbol_limit + a) (g.next p b * symbol_limit + b)) ≡ eqb (g.next p a) x
    one p x a la = both_ways
        (λ t.
        let b = any_find g.symbols (λ b. eqb (x * symbol_limit + a) (g.next p b * symbol_limit + b)) t in
        let e = eqb-true (x * symbol_limit + a) (g.next p b.0 * symbol_limit + b.0) b.2 in
        let lb = b.1 in
        let ea : b.0 ≡ a = omega (arith, e, la, lb, few) in
        eq-eqb (g.next p a) x (let ex : x ≡ g.next p b.0 = omega (arith, e, la, lb, few) in rw (ex, ea) refl))
        (λ t.
        let e = eqb-true (g.next p a) x t in
        any_at g.symbols (λ b. eqb (x * symbol_limit + a) (g.next p b * symbol_limit + b)) a la
        (eq-eqb (x * symbol_limit + a) (g.next p a * symbol_limit + a) (rw e refl)))

-- ---- what leads into a set

-- what was gathered, and what leads into the states that are left, make what leads into the whole; of those that pass a test
pub record Gathering (g : Automaton) (a : ℕ) (part whole into left : ℕ → Bool) : Type 0 where
  pub at : (q : ℕ) → (into q || (part q && leading g a left q)) ≡ (part q && leading g a whole q)

pub gathering_none : {g : Automaton} {a : ℕ} {part whole into : ℕ → Bool} → ((q : ℕ) → into q ≡ false) → Gathering g a part whole into whole
gathering_none none = record { at = λ q. rw (none q) }

module _ {g : Automaton} {a : ℕ} {part whole into left : ℕ → Bool} (G : Gathering g a part whole into left) where
  pub gathering_more : {sets : List StateSet} {y : ℕ} {more into' left' : ℕ → Bool} → Preceding g (λ p b. ltb p g.states) sets → a < g.symbols
      → left y ≡ true → y < g.states → ((q : ℕ) → more q ≡ (part q && set_at sets (y * symbol_limit + a) q))
      → ((q : ℕ) → into' q ≡ (into q || more q)) → ((q : ℕ) → left' q ≡ (left q && not (eqb q y))) → Gathering g a part whole into' left'
  gathering_more {y = y} P la hy ly im ii il = record {
    at = λ q.
        rw (ii q, im q, P.at y a q ly la, il (g.next q a))
        (step (into q) (part q) (ltb q g.states) (eqb (g.next q a) y) (left (g.next q a))
        (λ h. (let e = eqb-true (g.next q a) y h in rw e hy)))
        ∙ G.at q;
  }
    where
      step : (i c l e f : Bool) → (e ≡ true → f ≡ true) → ((i || (c && (l && e))) || (c && (l && (f && not e)))) ≡ (i || (c && (l && f)))
      step true c l e f h = refl
      step false false l e f h = refl
      step false true false e f h = refl
      step false true true true true h = refl
      step false true true true false h = sym (h refl)
      step false true true false true h = refl
      step false true true false false h = refl

  pub gathering_all : ((q : ℕ) → left q ≡ false) → Into g a part whole into
  gathering_all none = record { at = λ q. sym (last (into q) (part q) (ltb q g.states)) ∙ rw (← none (g.next q a)) (G.at q) }
    where
      last : (i c l : Bool) → (i || (c && (l && false))) ≡ i
      last true c l = refl
      last false true true = refl
      last false true false = refl
      last false false l = refl

-- the states of a set that are of a part are below the same number
pub part_within : {n : ℕ} (part set word : ℕ → Bool) → ((q : ℕ) → word q ≡ (part q && set q)) → Within n set → Within n word
part_within part set word is W = record { at = λ q t. W.at q (and_right (part q) (set q) (sym (is q) ∙ t)) }

-- two words, one after the other
pub into_both : {g : Automaton} {a : ℕ} {part set low high some more into : ℕ → Bool} → Closed g → a < g.symbols → g.states ≤ state_limit
    → ((q : ℕ) → low q ≡ (is_part 0 q && set q)) → ((q : ℕ) → high q ≡ (is_part 1 q && set q)) → ((q : ℕ) → into q ≡ (some q || more q))
    → Into g a part low some → Into g a part high more → Into g a part set into
into_both {g} {a} {part} {set} closed la few L H is A B = record {
  at = λ q.
      is q ∙ rw (A.at q, B.at q, L (g.next q a), H (g.next q a))
      (⊎_elim
      (λ (lq : q < g.states). rw (lt-ltb q g.states lq) (either q (closed.next_in q a lq la)))
      (λ out. rw (le-ltb q g.states out) (none (part q)))
      (lt_or_le q g.states));
}
  where
    none : (c : Bool) → ((c && false) || (c && false)) ≡ (c && false)
    none true = refl
    none false = refl

    one : (c b : Bool) → ((c && b) || (c && false)) ≡ (c && b)
    one true b = or-false b
    one false b = refl

    other : (c b : Bool) → ((c && false) || (c && b)) ≡ (c && b)
    other true b = refl
    other false b = refl

    either : (q : ℕ) → g.next q a < g.states
        → ((part q && (is_part 0 (g.next q a) && set (g.next q a))) || (part q && (is_part 1 (g.next q a) && set (g.next q a)))) ≡
        (part q && set (g.next q a))
    either q l =
        let z = g.next q a in
        ⊎_elim
        (λ (b : z < 64). rw (eq-eqb (z / 64) 0 (omega (arith, b)), ne_eqb (z / 64) 1 (λ e. omega (arith, b, e))) (one (part q) (set z)))
        (λ (b : 64 ≤ z). rw (ne_eqb (z / 64) 0 (λ e. omega (arith, b, e)), eq-eqb (z / 64) 1 (omega (arith, b, l, few))) (other (part q) (set z)))
        (lt_or_le z 64)

-- ---- the entries of a row

-- one entry stored
pub entered_one : (n : ℕ) (square : List ℕ) (p y d : ℕ) → n ≤ state_limit → HasRows n square → p < n → y < state_limit
    → Entered n square p (λ q. eqb q y) d (set square (place p y) d)
entered_one n square p y d few size lp ly = record {
  size = length-set square (place p y) d;
  here = λ q lq. by q (eqb q y) refl;
  elsewhere = λ x q lx lq ne. get_or-set_other square (place p y) (place x q) d 0 (λ e. ne (omega (arith, e, few, lq, ly)));
}
  where
    by : (q : ℕ) (b : Bool) → eqb q y ≡ b → entry (set square (place p y) d) p q ≡ cond b d (entry square p q)
    by q true h = (let e = eqb-true q y h in rw e (get_or-set_same square (place p y) d 0 (omega (arith, size, lp, ly))))
    by q false h = (let ne = eqb-false q y h in get_or-set_other square (place p y) (place p q) d 0 (λ e. ne (omega (arith, e))))

-- what is entered for the states that are left makes what is to be entered
pub record Entering (n : ℕ) (before : List ℕ) (p : ℕ) (whole : ℕ → Bool) (d : ℕ) (after : List ℕ) (left : ℕ → Bool) : Type 0 where
  pub size : length after ≡ length before
  pub here : (q : ℕ) → q < n → cond (left q) d (entry after p q) ≡ cond (whole q) d (entry before p q)
  pub elsewhere : (x q : ℕ) → x < n → q < n → (x ≡ p → ⊥) → entry after x q ≡ entry before x q

pub entering_none : {n : ℕ} {before : List ℕ} {p : ℕ} {whole : ℕ → Bool} {d : ℕ} → Entering n before p whole d before whole
entering_none = record { size = refl; here = λ q l. refl; elsewhere = λ x q lx lq ne. refl }

module _ {n : ℕ} {before : List ℕ} {p : ℕ} {whole : ℕ → Bool} {d : ℕ} {after : List ℕ} {left : ℕ → Bool} (E : Entering n before p whole d after left) where
  pub entering_more : {y : ℕ} {left' : ℕ → Bool} → n ≤ state_limit → HasRows n before → p < n → left y ≡ true → y < state_limit
      → ((q : ℕ) → left' q ≡ (left q && not (eqb q y))) → Entering n before p whole d (set after (place p y) d) left'
  entering_more {y} {left'} few size lp hy ly is = record {
    size = one.size ∙ E.size;
    here = λ q lq.
        rw (is q, one.here q lq)
        (step (entry after p q) (left q) (eqb q y) (λ h. (let e = eqb-true q y h in rw e hy)))
        ∙ E.here q lq;
    elsewhere = λ x q lx lq ne. one.elsewhere x q lx lq ne ∙ E.elsewhere x q lx lq ne;
  }
    where
      one : Entered n after p (λ q. eqb q y) d (set after (place p y) d)
      one = entered_one n after p y d few (rw E.size size) lp ly

      step : (i : ℕ) (f e : Bool) → (e ≡ true → f ≡ true) → cond (f && not e) d (cond e d i) ≡ cond f d i
      step i true true h = refl
      step i true false h = refl
      step i false true h = absurd (clash (h refl) refl)
      step i false false h = refl

  pub entering_all : ((q : ℕ) → left q ≡ false) → Entered n before p whole d after
  entering_all none = record { size = E.size; here = λ q lq. sym (rw (none q)) ∙ E.here q lq; elsewhere = E.elsewhere }
