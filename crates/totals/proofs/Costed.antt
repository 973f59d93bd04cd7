-- The costs and the least total as the search enters them, state by state.
use mathlib.Core.Path.{◌≡◌, sym, ap, subst, ◌∙◌}
use mathlib.Core.List.{List}
use mathlib.Core.Logic.{◌⊎◌, inl, inr, ⊎_elim}
use Prim.Native.Nat.{ℕ, ◌+◌, ◌-◌, ◌≤◌, ◌<◌, min}
use native.Mathlib.Omega.{arith}
use lib.ListN.{length, get_or, set, length-set}
use lib.Seq.{get_or-set_same, get_or-set_other}
use Rattle.theory.specs.Automaton.{Automaton, run}
use Rattle.theory.specs.Faults.{FaultStep}
use Rattle.theory.proofs.Below.{lt_or_le, same_or_not}
use Rattle.theory.proofs.Faults.{steps_good}
use Rattle.square.specs.Square.{never, entry}
use Rattle.faults.specs.Steps.{plus, cost_of, Attained, Cheapest}
use Rattle.faults.specs.Looks.{OfSet}
use Rattle.layers.specs.Layers.{Queue}
use Rattle.layers.proofs.Queue.{listed_found}
use Rattle.totals.specs.Totals.{Makes, Costed}

-- no fault step costs less than 1
cost_some : (g : Automaton) (square : List ℕ) (bits p : ℕ) (s : FaultStep) → OfSet bits g.symbols s → 1 ≤ cost_of g square p s
cost_some g square bits p s i = some (length s.sent) (entry square (run g p s.sent) (run g p s.received)) (steps_good g bits s i).covers
  where
    some : (l e : ℕ) → 1 ≤ l → 1 ≤ plus l e
    some l e h = omega (arith, h)

module _ {limit : ℕ} (g : Automaton) (square : List ℕ) (bits : ℕ) {count i p d total : ℕ} {order depths costs : List ℕ} (few : g.states ≤ limit)
    (queue : Queue limit g.states count order depths) (li : i < count) (ep : p ≡ get_or order i 0) (ed : d ≡ get_or depths p 0)
    (h : Costed limit g square (OfSet bits g.symbols) order depths i costs total) where
  pub costed_state : p < g.states
  costed_state = rw ep (queue.inside i li)

  pub costed_depth : d < limit
  costed_depth = (let l = listed_found few queue i li in let e = ap (λ (q : ℕ). get_or depths q 0) ep in omega (arith, l, e, ed))

  module _ {cost : ℕ} (low : d < total) (cheapest : Cheapest g square p (OfSet bits g.symbols) (total - d) cost) where
    abbrev costs₁ : List ℕ
    costs₁ = set costs p cost

    here : get_or costs₁ p 0 ≡ cost
    here = (let l = costed_state in get_or-set_same costs p cost 0 (omega (arith, l, h.size, few)))

    others : (q : ℕ) → (q ≡ p → ⊥) → get_or costs₁ q 0 ≡ get_or costs q 0
    others q ne = get_or-set_other costs p q cost 0 ne

    -- a property of each state holds after the entry if it holds of p with its cost, and of the others as before
    at_each : (P : ℕ → ℕ → Type 0) (q : ℕ) → P p cost → ((q ≡ p → ⊥) → P q (get_or costs q 0)) → P q (get_or costs₁ q 0)
    at_each P q now old =
        ⊎_elim (λ (e : q ≡ p). subst (λ (r : ℕ). P r (get_or costs₁ r 0)) (sym e) (rw here now)) (λ ne. rw (others q ne) (old ne)) (same_or_not q p)

    -- a place before i + 1 that has another state comes before i
    earlier : (j : ℕ) → j < i + 1 → (get_or order j 0 ≡ p → ⊥) → j < i
    earlier j l ne = ⊎_elim (λ m. m) (λ (m : i ≤ j). (let e : i ≡ j = omega (arith, m, l) in absurd (ne (ap (λ (x : ℕ). get_or order x 0) (sym e) ∙ sym ep))))
        (lt_or_le j i)

    some : 1 ≤ cost
    some =
        ⊎_elim (λ (l : cost < never). (let r = cheapest.attained l in let m = cost_some g square bits p r.step r.of in omega (arith, m, r.costs)))
        (λ l. omega (arith, l)) (lt_or_le cost never)

    pub costed_goes_on : {total₁ : ℕ} → total₁ ≡ min (d + cost) total → Costed limit g square (OfSet bits g.symbols) order depths (i + 1) costs₁ total₁
    costed_goes_on {total₁} e = record {
      size = length-set costs p cost ∙ h.size;
      most = omega (arith, e, h.most);
      shallow = λ j l.
          let r = queue.rises j i (omega (arith, l)) li in
          let z = ap (λ (q : ℕ). get_or depths q 0) ep in
          omega (arith, r, z, ed, e, low, some);
      above = λ j l.
          at_each (λ q c. total₁ ≤ get_or depths q 0 + c) (get_or order j 0) (omega (arith, e, ed))
          (λ ne. (let m = h.above j (earlier j l ne) in omega (arith, m, e)));
      least = λ j l s of.
          at_each (λ q c. (c ≤ cost_of g square q s) ⊎ (total₁ < get_or depths q 0 + cost_of g square q s)) (get_or order j 0)
          (⊎_elim (λ m. inl m) (λ m. inr (omega (arith, m, low, e, ed))) (cheapest.least s of))
          (λ ne. ⊎_elim (λ m. inl m) (λ m. inr (omega (arith, m, e))) (h.least j (earlier j l ne) s of));
      attained = λ q lq.
          at_each (λ r c. c < never → Attained g square r (OfSet bits g.symbols) c) q cheapest.attained (λ ne. h.attained q lq);
      makes = λ l. ⊎_elim (new l) (old l) (lt_or_le (d + cost) total);
    }
      where
        new : total₁ < never → d + cost < total → Makes limit g square (OfSet bits g.symbols) depths total₁
        new l m =
            let r = cheapest.attained (omega (arith, l, m, e)) in
            let z = r.costs in
            record {
              state = p;
              inside = costed_state;
              reached = (let y = costed_depth in omega (arith, y, ed));
              step = r.step;
              of = r.of;
              sum = omega (arith, z, e, m, ed);
            }

        old : total₁ < never → total ≤ d + cost → Makes limit g square (OfSet bits g.symbols) depths total₁
        old l m = (let z : total ≡ total₁ = omega (arith, e, m) in subst (λ (t : ℕ). Makes limit g square (OfSet bits g.symbols) depths t) z
            (h.makes (omega (arith, z, l))))
