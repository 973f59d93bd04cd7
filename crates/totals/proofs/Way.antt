-- What is left of the total at the states on the way, entered from the deepest state visited back to the start.
use mathlib.Core.Path.{◌≡◌, sym, ap, subst, ◌∙◌}
use mathlib.Core.List.{List}
use mathlib.Core.Logic.{inl, inr, ⊎_elim}
use Prim.Native.Nat.{ℕ, ◌+◌, ◌≤◌, ◌<◌, zero-le}
use native.Mathlib.Omega.{arith}
use lib.ListN.{get_or, set, length-set}
use lib.Seq.{get_or-set_same, get_or-set_other}
use borrow.Author.Tests.{eq-eqb, eqb-true}
use Rattle.theory.specs.Automaton.{Automaton}
use Rattle.theory.proofs.Below.{clash, lt_or_le, same_or_not, first_below, first_here}
use Rattle.square.specs.Square.{never}
use Rattle.layers.specs.Layers.{depth_at, Queue}
use Rattle.totals.specs.Totals.{onward, LeadsOn, OnTheWay}
use Rattle.totals.proofs.Walk.{leads_to_total}

module _ (g : Automaton) (v : List ℕ) where
  -- a symbol that leads to a state with m left is not before the lowest
  pub onward_at : (m q a : ℕ) → a < g.symbols → get_or v (g.next q a) 0 ≡ m → onward g v m q < g.symbols
  onward_at m q a la e =
      ⊎_elim (λ l. l)
      (λ (l : g.symbols ≤ onward g v m q).
      absurd (clash (eq-eqb (get_or v (g.next q a) 0) m e) (first_below (leads_to_total g v m q) 0 g.symbols a zero-le (omega (arith, l, la)))))
      (lt_or_le (onward g v m q) g.symbols)

  pub onward_leads : (m q : ℕ) → onward g v m q < g.symbols → get_or v (g.next q (onward g v m q)) 0 ≡ m
  onward_leads m q l = eqb-true (get_or v (g.next q (onward g v m q)) 0) m (first_here (leads_to_total g v m q) 0 g.symbols (omega (arith, l)))

module _ {limit : ℕ} {g : Automaton} {order depths costs v : List ℕ} {total visited count i p : ℕ} (l : ℕ) (few : g.states ≤ limit)
    (queue : Queue limit g.states count order depths) (li : i < count) (ep : p ≡ get_or order i 0) (el : l + get_or depths p 0 ≡ total) (low : total < never)
    (h : OnTheWay limit g order depths costs total (i + 1) visited v) where
  p_in : p < g.states
  p_in = rw ep (queue.inside i li)

  -- from i on: i itself, or later
  from_here : (P : ℕ → Type 0) → P i → ((j : ℕ) → i + 1 ≤ j → P j) → (j : ℕ) → i ≤ j → P j
  from_here P now later j m = ⊎_elim (λ (s : i < j). later j (omega (arith, s))) (λ (s : j ≤ i). (let e : i ≡ j = omega (arith, s, m) in subst P e now))
      (lt_or_le i j)

  -- what is left at the i-th state is l
  is_left : {f : ℕ} → f + depth_at order depths i ≡ total → f ≡ l
  is_left e = (let z = ap (λ (q : ℕ). get_or depths q 0) ep in omega (arith, e, z, el))

  pub way_not : (LeadsOn g v costs l p → ⊥) → OnTheWay limit g order depths costs total i visited v
  way_not not = record {
    size = h.size;
    left = h.left;
    leading = h.leading;
    complete = λ j f m t e on.
        from_here (λ j. j < visited → f + depth_at order depths j ≡ total → LeadsOn g v costs f (get_or order j 0) → get_or v (get_or order j 0) 0 ≡ f)
        (λ _ e on. (let z = is_left e in absurd (not (subst (λ (x : ℕ). LeadsOn g v costs x p) z (rw (sym ep) at on)))))
        (λ j m t e on. h.complete j f m t e on)
        j m t e on;
  }

  module _ (on_way : LeadsOn g v costs l p) where
    abbrev v₁ : List ℕ
    v₁ = set v p l

    here : get_or v₁ p 0 ≡ l
    here = (let s = p_in in get_or-set_same v p l 0 (omega (arith, s, h.size, few)))

    others : (q : ℕ) → (q ≡ p → ⊥) → get_or v₁ q 0 ≡ get_or v q 0
    others q ne = get_or-set_other v p q l 0 ne

    -- what was left is left
    kept : (q m : ℕ) → m < never → get_or v q 0 ≡ m → get_or v₁ q 0 ≡ m
    kept q m s e =
        ⊎_elim
        (λ (z : q ≡ p).
        let was = subst (λ (x : ℕ). get_or v x 0 ≡ m) z e in
        let sum = h.left p p_in (omega (arith, was, s)) in
        ap (λ (x : ℕ). get_or v₁ x 0) z ∙ here ∙ (let y : l ≡ m = omega (arith, was, sum, el) in y))
        (λ ne. others q ne ∙ e)
        (same_or_not q p)

    leads_kept : (q f : ℕ) → f < never → LeadsOn g v costs f q → LeadsOn g v₁ costs f q
    leads_kept q f s on =
        ⊎_elim (λ e. inl e)
        (λ r.
        let at = onward_leads g v r.0 q r.2 in
        inr (r.0, r.1, onward_at g v₁ r.0 q (onward g v r.0 q) r.2 (kept (g.next q (onward g v r.0 q)) r.0 (omega (arith, s, r.1)) at)))
        on

    -- what leads on from a later place did so before: the i-th state is no deeper than that
    leads_before : (j f : ℕ) → i ≤ j → j < count → f + depth_at order depths j ≡ total → LeadsOn g v₁ costs f (get_or order j 0)
        → LeadsOn g v costs f (get_or order j 0)
    leads_before j f m lj e on =
        ⊎_elim (λ z. inl z)
        (λ r.
        let q = get_or order j 0 in
        let a = onward g v₁ r.0 q in
        let x = g.next q a in
        let at : get_or v₁ x 0 ≡ r.0 = onward_leads g v₁ r.0 q r.2 in
        ⊎_elim
        (λ (z : x ≡ p).
        let was : get_or v₁ p 0 ≡ r.0 = subst (λ (y : ℕ). get_or v₁ y 0 ≡ r.0) z at in
        let up = queue.rises i j m lj in
        let y = ap (λ (b : ℕ). get_or depths b 0) ep in
        absurd (omega (arith, was, here, up, y, el, e, r.1)))
        (λ ne. inr (r.0, r.1, onward_at g v r.0 q a r.2 (sym (others x ne) ∙ at)))
        (same_or_not x p))
        on

    pub way_on : visited ≤ count → OnTheWay limit g order depths costs total i visited v₁
    way_on within = record {
      size = length-set v p l ∙ h.size;
      left = λ q lq s.
          ⊎_elim (λ (z : q ≡ p). subst (λ (x : ℕ). get_or v₁ x 0 + get_or depths x 0 ≡ total) (sym z) (rw here el))
          (λ ne. rw (others q ne) (h.left q lq (rw (others q ne) at s)))
          (same_or_not q p);
      leading = record {
        leads = λ q f lq e s.
            ⊎_elim
            (λ (z : q ≡ p).
            let is : l ≡ f = sym here ∙ ap (λ (x : ℕ). get_or v₁ x 0) (sym z) ∙ e in
            leads_kept q f s (subst (λ (x : ℕ). LeadsOn g v costs f x) (sym z) (subst (λ (x : ℕ). LeadsOn g v costs x p) is on_way)))
            (λ ne. leads_kept q f s (h.leading.leads q f lq (sym (others q ne) ∙ e) s))
            (same_or_not q p);
      };
      complete = λ j f m t e on.
          from_here (λ j. j < visited → f + depth_at order depths j ≡ total → LeadsOn g v₁ costs f (get_or order j 0) → get_or v₁ (get_or order j 0) 0 ≡ f)
          (λ _ e _. ap (λ (x : ℕ). get_or v₁ x 0) (sym ep) ∙ here ∙ sym (is_left e))
          (λ j m t e on.
          kept (get_or order j 0) f (omega (arith, e, low))
          (h.complete j f m t e (leads_before j f (omega (arith, m)) (omega (arith, t, within)) e on)))
          j m t e on;
    }
