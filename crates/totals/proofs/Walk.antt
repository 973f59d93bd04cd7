-- The way to the fault, written one symbol at a time: part written, part to come.
use mathlib.Core.Path.{◌≡◌, refl, sym, ◌∙◌, ap}
use mathlib.Core.Bool.{Bool}
use mathlib.Core.List.{List, [], ◌∷◌}
use mathlib.Core.Logic.{⊎_elim}
use Prim.Native.Nat.{ℕ, zero, suc, ◌+◌, ◌-◌, ◌≤◌, ◌<◌}
use native.Mathlib.Numerals.{add-one}
use native.Mathlib.Omega.{arith}
use lib.Dec.{eqb}
use lib.ListN.{length, get_or, set, length-set}
use lib.Seq.{sets}
use borrow.Author.Tests.{eq-eqb, ne_eqb, eqb-true}
use Rattle.theory.specs.Automaton.{Automaton, Closed, run}
use Rattle.theory.proofs.Below.{first_here}
use Rattle.square.specs.Square.{never}
use Rattle.totals.specs.Totals.{onward, approach, way_to_fault, Leading}

-- symbol a leads from p to a state with l left
abbrev pub leads_to_total : Automaton → List ℕ → ℕ → ℕ → ℕ → Bool
leads_to_total g v l p a = eqb (get_or v (g.next p a) 0) l

-- x is the state after p by a
pub leads_as : (g : Automaton) (v : List ℕ) (l p a : ℕ) {x : ℕ} {b : Bool} → x ≡ g.next p a → eqb (get_or v x 0) l ≡ b → leads_to_total g v l p a ≡ b
leads_as g v l p a e h = rw (← e) h

module _ (g : Automaton) (v costs : List ℕ) where
  approach_ends : (l p : ℕ) → get_or costs p 0 ≡ l → approach g v costs l p ≡ []
  unfolding approach
  approach_ends zero p e = refl
  approach_ends (suc l) p e = rw (eq-eqb (get_or costs p 0) (suc l) e)

  approach_goes_on : (l p : ℕ) → (get_or costs p 0 ≡ suc l → ⊥)
      → approach g v costs (suc l) p ≡ onward g v l p ∷ approach g v costs l (g.next p (onward g v l p))
  unfolding approach
  approach_goes_on l p ne = rw (ne_eqb (get_or costs p 0) (suc l) ne)

  -- p is reached and i symbols are written; `left` is what is left at p
  pub record Walk (start : ℕ) (before area : List ℕ) (p i left : ℕ) : Type 0 where
    pub inside : p < g.states
    pub here : get_or v p 0 ≡ left
    pub low : left < never
    pub total : i + left ≡ get_or v start 0
    pub size : length area ≡ length before
    pub written : sets area i (approach g v costs left p) ≡ sets before 0 (way_to_fault g v costs start)
    pub count : i + length (approach g v costs left p) ≡ length (way_to_fault g v costs start)
    pub leads : run g p (approach g v costs left p) ≡ run g start (way_to_fault g v costs start)

module _ {g : Automaton} {v costs before area : List ℕ} {start p i left : ℕ} (w : Walk g v costs start before area p i left) where
  module _ (leading : Leading g v costs) (ne : get_or costs p 0 ≡ left → ⊥) where
    -- a symbol is left
    pub walk_left : 1 ≤ left
    walk_left = ⊎_elim (λ e. absurd (ne e)) (λ s. omega (arith, s.1)) (leading.leads p left w.inside w.here w.low)

    module _ {a : ℕ} (ea : a ≡ onward g v (left - 1) p) where
      -- a leads on
      pub walk_symbol : a < g.symbols
      walk_symbol =
          ⊎_elim (λ e. absurd (ne e)) (λ s. (let e : s.0 ≡ left - 1 = omega (arith, s.1) in rw (ea, ← e) s.2))
          (leading.leads p left w.inside w.here w.low)

      rest : approach g v costs left p ≡ a ∷ approach g v costs (left - 1) (g.next p a)
      rest =
          let e : left ≡ suc (left - 1) = omega (arith, walk_left) in
          rw ea (ap (λ (l : ℕ). approach g v costs l p) e ∙ approach_goes_on g v costs (left - 1) p (λ h. ne (h ∙ sym e)))

      pub walk_goes_on : Closed g → {q : ℕ} → q ≡ g.next p a → Walk g v costs start before (set area i a) q (i + 1) (left - 1)
      unfolding run
      walk_goes_on closed eq =
          rw eq
          (record {
            inside = closed.next_in p a w.inside walk_symbol;
            here =
                rw ea (eqb-true (get_or v (g.next p (onward g v (left - 1) p)) 0) (left - 1)
                (first_here (leads_to_total g v (left - 1) p) 0 g.symbols (omega (arith, walk_symbol, ea))));
            low = omega (arith, w.low);
            total = omega (arith, w.total, walk_left);
            size = length-set area i a ∙ w.size;
            written = rw (add-one i) (ap (sets area i) (sym rest) ∙ w.written);
            count = (let n = ap length rest in omega (arith, w.count, n));
            leads = ap (run g p) (sym rest) ∙ w.leads;
          })

  -- where nothing is left, nothing is what the fault costs
  pub walk_spent : Leading g v costs → left ≡ 0 → get_or costs p 0 ≡ left
  walk_spent leading e = ⊎_elim (λ z. z) (λ s. absurd (omega (arith, s.1, e))) (leading.leads p left w.inside w.here w.low)

  module _ (e : get_or costs p 0 ≡ left) where
    pub walk_written : area ≡ sets before 0 (way_to_fault g v costs start)
    walk_written = rw (approach_ends g v costs left p e) at w.written

    pub walk_count : i ≡ length (way_to_fault g v costs start)
    walk_count = (let n = ap length (approach_ends g v costs left p e) in omega (arith, w.count, n))

    pub walk_state : p ≡ run g start (way_to_fault g v costs start)
    unfolding run
    walk_state = rw (approach_ends g v costs left p e) at w.leads
