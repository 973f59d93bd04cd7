-- The queue of states found, as it grows: a state entered, the successors of a state, state by state until all are expanded.
use mathlib.Core.Path.{◌≡◌, refl, sym, ap, ◌∙◌, subst}
use mathlib.Core.Bool.{Bool, ◌||◌}
use mathlib.Core.List.{List, [], ◌∷◌, ◌++◌}
use mathlib.Core.Logic.{⊎_elim}
use Prim.Native.Nat.{ℕ, ◌+◌, ◌≤◌, ◌<◌}
use native.Mathlib.Nat.{le_refl, le_trans, lt_of_lt_of_le, not-suc-le-zero}
use native.Mathlib.Omega.{arith}
use lib.Dec.{eqb}
use lib.ListN.{length, get_or, set, length-append, length-set}
use lib.Seq.{get_or-set_same, get_or-set_other}
use borrow.Author.Tests.{lt-ltb, le-ltb, ltb-true, eq-eqb}
use Rattle.theory.specs.Below.{count}
use Rattle.theory.specs.Automaton.{Automaton, Closed, Trace, run}
use Rattle.theory.proofs.Below.{lt_or_le, same_or_not, or_left, or_right, count_le, count_more}
use Rattle.theory.proofs.Reach.{run_append, trace_append}
use Rattle.layers.specs.Layers.{found, depth_at, Led, Reached, Queue, NoDeeper, Grown, By, Onward, Explored}

-- ---- traces

pub led_start : (g : Automaton) (start : ℕ) → Led g start start 0
unfolding Trace run
led_start g start = record { word = []; trace = tt; long = refl; arrives = refl }

pub led_on : (g : Automaton) {start q l a x : ℕ} → Led g start q l → a < g.symbols → x ≡ g.next q a → Led g start x (l + 1)
unfolding Trace run
led_on g {start} {q} {l} {a} {x} h la e = record {
  word = h.word ++ (a ∷ []);
  trace = trace_append g h.word (a ∷ []) h.trace (la, tt);
  long = length-append h.word (a ∷ []) ∙ ap (λ (i : ℕ). i + 1) h.long;
  arrives = run_append g start h.word (a ∷ []) ∙ ap (λ (p : ℕ). g.next p a) h.arrives ∙ sym e;
}

-- ---- the queue

pub queue_none : {limit n : ℕ} {order depths : List ℕ} → length order ≡ limit → length depths ≡ limit
    → ((q : ℕ) → q < n → limit ≤ get_or depths q 0) → Queue limit n 0 order depths
queue_none lo ld none = record {
  order_size = lo;
  depths_size = ld;
  counted = omega arith;
  inside = λ i l. absurd (not-suc-le-zero l);
  shallow = λ i l. absurd (not-suc-le-zero l);
  rises = λ i j _ l. absurd (not-suc-le-zero l);
  listed = λ q lq l. absurd (omega (arith, l, none q lq));
}

module _ {limit n c : ℕ} {order depths : List ℕ} (few : n ≤ limit) (queue : Queue limit n c order depths) where
  pub queue_few : c ≤ n
  queue_few = le_trans queue.counted (count_le (n) (found limit depths))

  -- each state of the order is found
  pub listed_found : (i : ℕ) → i < c → depth_at order depths i < limit
  listed_found i l = (let a = queue.shallow i l in let b = queue_few in omega (arith, a, b, l, few))

  -- a state found stands in the order
  pub found_by : {d q : ℕ} → NoDeeper c order depths d → q < n → get_or depths q 0 < limit → By limit depths d q
  found_by {d} {q} deep lq l =
      let at = queue.listed q lq l in
      record { is_found = l; near = subst (λ (p : ℕ). get_or depths p 0 ≤ d) at.2 (deep at.0 at.1) }

  pub grown_nothing : {d : ℕ} → NoDeeper c order depths d → Grown limit n d c c order order depths depths
  grown_nothing deep = record { queue = queue; no_deeper = deep; more = le_refl c; places = λ i l. refl; same = λ q lq l. refl }

  -- ---- a state entered

  module _ {x d : ℕ} (lx : x < n) (new : limit ≤ get_or depths x 0) (low : d ≤ c) (deep : NoDeeper c order depths d) where
    abbrev order₁ : List ℕ
    order₁ = set order c x

    abbrev depths₁ : List ℕ
    depths₁ = set depths x d

    here : get_or depths₁ x 0 ≡ d
    here = get_or-set_same depths x d 0 (omega (arith, queue.depths_size, lx, few))

    others : (q : ℕ) → (q ≡ x → ⊥) → get_or depths₁ q 0 ≡ get_or depths q 0
    others q ne = get_or-set_other depths x q d 0 ne

    not_new : (q : ℕ) → get_or depths q 0 < limit → q ≡ x → ⊥
    not_new q l e = (let h = subst (λ (p : ℕ). get_or depths p 0 < limit) e l in omega (arith, h, new))

    place : (i : ℕ) → i < c → get_or order₁ i 0 ≡ get_or order i 0
    place i l = get_or-set_other order c i x 0 (λ e. omega (arith, e, l))

    older : (i : ℕ) → i < c → depth_at order₁ depths₁ i ≡ depth_at order depths i
    older i l = rw (place i l) (others (get_or order i 0) (not_new (get_or order i 0) (listed_found i l)))

    -- x is not counted yet, so that there is room for it
    pub entered_room : c < n
    entered_room =
        let wider : ℕ → Bool = λ q. found limit depths q || eqb q x in
        let more = count_more (n) (found limit depths) wider (λ q _ t. or_left (found limit depths q) (eqb q x) t) x lx (le-ltb (get_or depths x 0) limit new)
        (or_right (found limit depths x) (eqb x x) (eq-eqb x x refl)) in
        let most = count_le (n) wider in
        omega (arith, more, most, queue.counted)

    d_low : d < limit
    d_low = (let r = entered_room in omega (arith, r, low, few))

    newest : depth_at order₁ depths₁ c ≡ d
    newest = rw (get_or-set_same order c x 0 (omega (arith, queue.order_size, entered_room, few))) here

    counted : c + 1 ≤ count (n) (found limit depths₁)
    counted =
        let more = count_more (n) (found limit depths) (found limit depths₁)
        (λ q _ t.
        let l = ltb-true (get_or depths q 0) limit t in
        lt-ltb (get_or depths₁ q 0) limit (rw (others q (not_new q l)) l))
        x lx (le-ltb (get_or depths x 0) limit new) (lt-ltb (get_or depths₁ x 0) limit (rw here d_low)) in
        omega (arith, more, queue.counted)

    -- a place below c + 1 is an older one, or the new one
    by_place : (P : ℕ → Type 0) → ((i : ℕ) → i < c → P i) → P c → (i : ℕ) → i < c + 1 → P i
    by_place P old now i l = ⊎_elim (old i) (λ (h : c ≤ i). (let e : c ≡ i = omega (arith, h, l) in subst P e now)) (lt_or_le i c)

    deep₁ : NoDeeper (c + 1) order₁ depths₁ d
    deep₁ = by_place (λ i. depth_at order₁ depths₁ i ≤ d) (λ i l. rw (older i l) (deep i l)) (rw newest (le_refl d))

    entered_queue : Queue limit n (c + 1) order₁ depths₁
    entered_queue = record {
      order_size = length-set order c x ∙ queue.order_size;
      depths_size = length-set depths x d ∙ queue.depths_size;
      counted = counted;
      inside = by_place (λ i. get_or order₁ i 0 < n) (λ i l. rw (place i l) (queue.inside i l))
          (rw (get_or-set_same order c x 0 (omega (arith, queue.order_size, entered_room, few))) lx);
      shallow = by_place (λ i. depth_at order₁ depths₁ i ≤ i) (λ i l. rw (older i l) (queue.shallow i l)) (rw newest low);
      rises = λ i j m l.
          ⊎_elim (λ (h : j < c). rw (older i (omega (arith, m, h)), older j h) (queue.rises i j m h))
          (λ (h : c ≤ j). (let e : c ≡ j = omega (arith, h, l) in
          subst (λ (y : ℕ). depth_at order₁ depths₁ i ≤ depth_at order₁ depths₁ y) e (rw newest (deep₁ i (omega (arith, m, l))))))
          (lt_or_le j c);
      listed = λ q lq l.
          ⊎_elim (λ (e : q ≡ x). (c, omega arith, get_or-set_same order c x 0 (omega (arith, queue.order_size, entered_room, few)) ∙ sym e))
          (λ ne. (let at = queue.listed q lq (rw (others q ne) at l) in (at.0, omega (arith, at.1), place at.0 at.1 ∙ at.2)))
          (same_or_not q x);
    }

    pub entered_grown : Grown limit n d c (c + 1) order order₁ depths depths₁
    entered_grown = record {
      queue = entered_queue;
      no_deeper = deep₁;
      more = omega arith;
      places = place;
      same = λ q lq l. others q (not_new q l);
    }

    pub entered_by : By limit depths₁ d x
    entered_by = record { is_found = rw here d_low; near = rw here (le_refl d) }

    pub entered_reached : {g : Automaton} {start : ℕ} → g.states ≡ n → Led g start x d → Reached limit g start depths → Reached limit g start depths₁
    entered_reached {g} {start} e led old q lq l =
        ⊎_elim (λ (s : q ≡ x). subst (λ (p : ℕ). Led g start p (get_or depths₁ p 0)) (sym s) (rw here led))
        (λ ne. rw (others q ne) (old q lq (rw (others q ne) at l)))
        (same_or_not q x)

-- ---- one after the other

module _ {limit n d b c e : ℕ} {order order₁ order₂ depths depths₁ depths₂ : List ℕ}
    (one : Grown limit n d b c order order₁ depths depths₁) (two : Grown limit n d c e order₁ order₂ depths₁ depths₂) where
  pub grown_twice : Grown limit n d b e order order₂ depths depths₂
  grown_twice = record {
    queue = two.queue;
    no_deeper = two.no_deeper;
    more = le_trans one.more two.more;
    places = λ i l. two.places i (lt_of_lt_of_le l one.more) ∙ one.places i l;
    same = λ q lq l. two.same q lq (rw (one.same q lq l) l) ∙ one.same q lq l;
  }

module _ {limit n d b c : ℕ} {order order₁ depths depths₁ : List ℕ} (grown : Grown limit n d b c order order₁ depths depths₁) where
  -- what was found is still found
  pub by_kept : {f q : ℕ} → q < n → By limit depths f q → By limit depths₁ f q
  by_kept {q = q} lq h = (let e = grown.same q lq h.is_found in record { is_found = rw e h.is_found; near = rw e h.near })

-- ---- the successors of a state

-- the successors of p by the symbols below a are entered, at the depth d at most
pub record Expanding (limit : ℕ) (g : Automaton) (d p before c a : ℕ) (order order₁ depths depths₁ : List ℕ) : Type 0 where
  pub upto : a ≤ g.symbols
  pub grown : Grown limit g.states d before c order order₁ depths depths₁
  pub onward : Onward limit g depths₁ d p a
  pub reached : (start : ℕ) → Reached limit g start depths → Reached limit g start depths₁

module _ {limit : ℕ} (g : Automaton) (few : g.states ≤ limit) {p before d : ℕ} {order depths : List ℕ} (lp : p < g.states)
    (queue : Queue limit g.states before order depths) (p-found : get_or depths p 0 < limit) (is-depth : d ≡ get_or depths p 0 + 1)
    (deep : NoDeeper before order depths d) where
  pub expanding_begins : Expanding limit g d p before before 0 order order depths depths
  expanding_begins = record {
    upto = omega arith;
    grown = grown_nothing few queue deep;
    onward = λ a l. absurd (not-suc-le-zero l);
    reached = λ start r. r;
  }

  -- x is the successor by a
  module _ (closed : Closed g) {c a x : ℕ} {order₁ depths₁ : List ℕ} (h : Expanding limit g d p before c a order order₁ depths depths₁) (la : a < g.symbols)
      (ex : x ≡ g.next p a) where
    x_in : x < g.states
    x_in = rw ex (closed.next_in p a lp la)

    -- one more symbol leads to a state found
    onward_more : {depths₂ : List ℕ} → Onward limit g depths₂ d p a → By limit depths₂ d x → Onward limit g depths₂ d p (a + 1)
    onward_more {depths₂} old now b l =
        ⊎_elim (old b) (λ (m : a ≤ b). (let e : a ≡ b = omega (arith, m, l) in subst (λ (y : ℕ). By limit depths₂ d (g.next p y)) e (rw ex at now)))
        (lt_or_le b a)

    pub expanding_old : get_or depths₁ x 0 < limit → Expanding limit g d p before c (a + 1) order order₁ depths depths₁
    expanding_old l = record {
      upto = omega arith;
      grown = h.grown;
      onward = onward_more h.onward (found_by few h.grown.queue h.grown.no_deeper x_in l);
      reached = h.reached;
    }

    module _ (new : limit ≤ get_or depths₁ x 0) where
      low : d ≤ c
      low =
          let at = queue.listed p lp p-found in
          let s = subst (λ (y : ℕ). get_or depths y 0 ≤ at.0) at.2 (queue.shallow at.0 at.1) in
          omega (arith, s, at.1, h.grown.more, is-depth)

      pub expanding_room : c < g.states
      expanding_room = entered_room few h.grown.queue x_in new low h.grown.no_deeper

      entered : Grown limit g.states d c (c + 1) order₁ (set order₁ c x) depths₁ (set depths₁ x d)
      entered = entered_grown few h.grown.queue x_in new low h.grown.no_deeper

      -- p is still found, at its depth
      p_kept : get_or depths₁ p 0 ≡ get_or depths p 0
      p_kept = h.grown.same p lp p-found

      pub expanding_new : Expanding limit g d p before (c + 1) (a + 1) order (set order₁ c x) depths (set depths₁ x d)
      expanding_new = record {
        upto = omega arith;
        grown = grown_twice h.grown entered;
        onward = onward_more (λ b l. by_kept entered (closed.next_in p b lp (omega (arith, l, la))) (h.onward b l))
            (entered_by few h.grown.queue x_in new low h.grown.no_deeper);
        reached = λ start r.
            let all = h.reached start r in
            let led : Led g start x d = rw is-depth (rw p_kept at (led_on g (all p lp (rw p_kept p-found)) la ex)) in
            entered_reached few h.grown.queue x_in new low h.grown.no_deeper {g = g} {start = start} refl led all;
      }

-- ---- state by state

-- the states before `head` are expanded, and none is more than one deeper than the next
pub record Exploring (limit : ℕ) (g : Automaton) (start c head : ℕ) (order depths : List ℕ) : Type 0 where
  pub queue : Queue limit g.states c order depths
  pub reached : Reached limit g start depths
  pub begins : By limit depths 0 start
  pub expanded : (i : ℕ) → i < head → Onward limit g depths (depth_at order depths i + 1) (get_or order i 0) g.symbols
  pub deep : head < c → NoDeeper c order depths (depth_at order depths head + 1)

pub exploring_begins : {limit : ℕ} (g : Automaton) {start : ℕ} (order depths : List ℕ) → g.states ≤ limit → start < g.states
    → length order ≡ limit → length depths ≡ limit → ((q : ℕ) → q < limit → get_or depths q 0 ≡ limit)
    → Exploring limit g start 1 0 (set order 0 start) (set depths start 0)
exploring_begins {limit} g {start} order depths few ls lo ld none = record {
  queue = grown.queue;
  reached = entered_reached few empty ls (unfound start ls) (le_refl 0) (λ i l. absurd (not-suc-le-zero l)) {g = g} {start = start} refl (led_start g start)
      (λ q lq l. absurd (omega (arith, l, unfound q lq)));
  begins = entered_by few empty ls (unfound start ls) (le_refl 0) (λ i l. absurd (not-suc-le-zero l));
  expanded = λ i l. absurd (not-suc-le-zero l);
  deep = λ _ i l. (let s = grown.no_deeper i l in omega (arith, s));
}
  where
    unfound : (q : ℕ) → q < g.states → limit ≤ get_or depths q 0
    unfound q lq = (let e = none q (omega (arith, lq, few)) in omega (arith, e))

    empty : Queue limit g.states 0 order depths
    empty = queue_none lo ld unfound

    grown : Grown limit g.states 0 0 1 order (set order 0 start) depths (set depths start 0)
    grown = entered_grown few empty ls (unfound start ls) (le_refl 0) (λ i l. absurd (not-suc-le-zero l))

module _ {limit : ℕ} (g : Automaton) (few : g.states ≤ limit) {start c head : ℕ} {order depths : List ℕ} (h : Exploring limit g start c head order depths)
    (l : head < c) where
  pub exploring_fewer : head < g.states
  exploring_fewer = (let s = queue_few few h.queue in omega (arith, s, l))

module _ {limit : ℕ} (g : Automaton) (few : g.states ≤ limit) {start c head p : ℕ} {order depths : List ℕ} (h : Exploring limit g start c head order depths)
    (l : head < c) (ep : p ≡ get_or order head 0) where
  pub exploring_state : p < g.states
  exploring_state = rw ep (h.queue.inside head l)

  pub exploring_found : get_or depths p 0 < limit
  exploring_found = rw ep (listed_found few h.queue head l)

  pub exploring_deep : NoDeeper c order depths (get_or depths p 0 + 1)
  exploring_deep = rw ep (h.deep l)

  pub exploring_goes_on : {e : ℕ} {order₁ depths₁ : List ℕ} → Closed g → start < g.states
      → Grown limit g.states (get_or depths p 0 + 1) c e order order₁ depths depths₁
      → Onward limit g depths₁ (get_or depths p 0 + 1) p g.symbols → Reached limit g start depths₁ → Exploring limit g start e (head + 1) order₁ depths₁
  exploring_goes_on {e} {order₁} {depths₁} closed ls grown onward reached = record {
    queue = grown.queue;
    reached = reached;
    begins = by_kept grown ls h.begins;
    expanded = λ i m.
        ⊎_elim
        (λ (s : i < head). rw (same i (omega (arith, s, l)), grown.places i (omega (arith, s, l)))
        (λ a la. by_kept grown (closed.next_in (get_or order i 0) a (h.queue.inside i (omega (arith, s, l))) la) (h.expanded i s a la)))
        (λ (s : head ≤ i). (let z : head ≡ i = omega (arith, s, m) in
        subst (λ (j : ℕ). Onward limit g depths₁ (depth_at order₁ depths₁ j + 1) (get_or order₁ j 0) g.symbols) z
        (rw (same head l, grown.places head l) (rw ep at onward))))
        (lt_or_le i head);
    deep = λ m i n.
        let s = grown.no_deeper i n in
        let r = grown.queue.rises head (head + 1) (omega arith) m in
        let z = same head l in
        let y : get_or depths p 0 ≡ depth_at order depths head = ap (λ (q : ℕ). get_or depths q 0) ep in
        omega (arith, s, r, z, y);
  }
    where
      same : (i : ℕ) → i < c → depth_at order₁ depths₁ i ≡ depth_at order depths i
      same i m = rw (grown.places i m) (grown.same (get_or order i 0) (h.queue.inside i m) (listed_found few h.queue i m))

pub exploring_ends : {limit : ℕ} {g : Automaton} {start c head : ℕ} {order depths : List ℕ} → Exploring limit g start c head order depths → c ≤ head
    → Explored limit g start c order depths
exploring_ends h l = record {
  queue = h.queue;
  reached = h.reached;
  begins = h.begins;
  expanded = λ i m. h.expanded i (omega (arith, m, l));
}
