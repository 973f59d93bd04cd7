-- `told` says exactly that some trace tells two states apart; with n states, n * n symbols are enough.
use mathlib.Core.Path.{◌≡◌, refl, sym, ap, ◌∙◌, subst}
use mathlib.Core.Bool.{Bool, true, ◌||◌}
use mathlib.Core.List.{List, [], ◌∷◌}
use mathlib.Core.Logic.{⊎_elim}
use Prim.Native.Nat.{ℕ, zero, suc, ◌+◌, ◌-◌, ◌*◌, ◌/◌, ◌%◌, ◌≤◌, ◌<◌, zero-le, suc-le-suc}
use native.Mathlib.Nat.{le_refl, le_of_suc-le-suc, not-suc-le-zero, eq-or-lt_of_le, mod-lt, div-lt_iff_lt-mul, add-sub_of_le, add-zero, add-suc}
use native.Mathlib.Omega.{arith}
use lib.ListN.{length}
use lib.Arith.{digits_lt, digits_div, digits_mod}
use Rattle.theory.specs.Below.{any}
use Rattle.theory.specs.Automaton.{Automaton, Closed, Trace, run}
use Rattle.theory.specs.Pairs.{Tells, told}
use Rattle.theory.proofs.Below.{lt_or_le, or_cases, or_left, or_right, any_at, any_find, any_same}
use Rattle.theory.proofs.Rounds.{stopped}
use Rattle.theory.proofs.Reach.{run_in}

module _ (g : Automaton) (ends : ℕ → ℕ → Bool) where
  -- a symbol leads from p and q to a pair told apart within r
  abbrev pub onward : ℕ → ℕ → ℕ → ℕ → Bool
  onward r p q a = told g ends r (g.next p a) (g.next q a)

  -- a trace of at most r symbols that tells p and q apart
  pub record Short (r p q : ℕ) : Type 0 where
    pub word : List ℕ
    pub tells : Tells g ends p q word
    pub short : length word ≤ r

  pub tells_step : (p q a : ℕ) (w : List ℕ) → a < g.symbols → Tells g ends (g.next p a) (g.next q a) w → Tells g ends p q (a ∷ w)
  unfolding Trace run
  tells_step p q a w l t = record { trace = (l, t.trace); apart = t.apart }

  pub tells_rest : (p q a : ℕ) (w : List ℕ) → Tells g ends p q (a ∷ w) → (a < g.symbols) × Tells g ends (g.next p a) (g.next q a) w
  unfolding Trace run
  tells_rest p q a w t = (t.trace.0, record { trace = t.trace.1; apart = t.apart })

  pub tells_nothing : (p q : ℕ) → ends p q ≡ true → Tells g ends p q []
  unfolding Trace run
  tells_nothing p q e = record { trace = tt; apart = e }

  pub tells_ends : (p q : ℕ) → Tells g ends p q [] → ends p q ≡ true
  unfolding Trace run
  tells_ends p q t = t.apart

  pub told_sound : (r p q : ℕ) → told g ends r p q ≡ true → Short r p q
  unfolding told
  told_sound zero p q e = record { word = []; tells = tells_nothing p q e; short = le_refl 0 }
  told_sound (suc r) p q e =
      ⊎_elim
      (λ h. (let s = told_sound r p q h in record { word = s.word; tells = s.tells; short = omega (arith, s.short) }))
      (λ h.
      let b = any_find g.symbols (onward r p q) h in
      let s = told_sound r (g.next p b.0) (g.next q b.0) b.2 in
      record { word = b.0 ∷ s.word; tells = tells_step p q b.0 s.word b.1 s.tells; short = suc-le-suc s.short })
      (or_cases (told g ends r p q) (any g.symbols (onward r p q)) e)

  pub told_more : (r p q : ℕ) → told g ends r p q ≡ true → told g ends (suc r) p q ≡ true
  unfolding told
  told_more r p q e = or_left (told g ends r p q) (any g.symbols (onward r p q)) e

  pub told_up : (r s p q : ℕ) → r ≤ s → told g ends r p q ≡ true → told g ends s p q ≡ true
  told_up r zero p q l e = (let z : r ≡ 0 = omega arith in subst (λ (x : ℕ). told g ends x p q ≡ true) z e)
  told_up r (suc s) p q l e =
      ⊎_elim (λ (z : r ≡ suc s). subst (λ (x : ℕ). told g ends x p q ≡ true) z e) (λ h. told_more s p q (told_up r s p q (le_of_suc-le-suc h) e))
      (eq-or-lt_of_le l)

  pub told_complete : (r p q : ℕ) (w : List ℕ) → length w ≤ r → Tells g ends p q w → told g ends r p q ≡ true
  unfolding told
  told_complete zero p q [] l t = tells_ends p q t
  told_complete (suc r) p q [] l t = told_more r p q (told_complete r p q [] zero-le t)
  told_complete zero p q (a ∷ w) l t = absurd (not-suc-le-zero l)
  told_complete (suc r) p q (a ∷ w) l t =
      let s = tells_rest p q a w t in
      or_right (told g ends r p q) (any g.symbols (onward r p q))
      (any_at g.symbols (onward r p q) a s.0 (told_complete r (g.next p a) (g.next q a) w (le_of_suc-le-suc l) s.1))

  -- the round after r tells no two states apart that were not
  abbrev pub Still : ℕ → Type 0
  Still r = (p q : ℕ) → p < g.states → q < g.states → told g ends (suc r) p q ≡ told g ends r p q

  module _ (c : Closed g) where
    pub still_on : (r : ℕ) → Still r → Still (suc r)
    unfolding told
    still_on r s p q lp lq =
        ap (λ (b : Bool). b || any g.symbols (onward (suc r) p q)) (s p q lp lq)
        ∙ ap (λ (b : Bool). told g ends r p q || b)
        (any_same g.symbols (onward (suc r) p q) (onward r p q) (λ a la. s (g.next p a) (g.next q a) (c.next_in p a lp la) (c.next_in q a lq la)))

    -- once still, no number of symbols tells more
    pub still_ever : (r s p q : ℕ) → Still r → p < g.states → q < g.states → told g ends s p q ≡ true → told g ends r p q ≡ true
    still_ever r s p q h lp lq e = ⊎_elim (λ (l : s < r). told_up s r p q (omega arith) e)
        (λ l. subst (λ (x : ℕ). told g ends x p q ≡ true → told g ends r p q ≡ true) (add-sub_of_le l)
        (λ t. sym ((all (s - r)).1 p q lp lq) ∙ t) e) (lt_or_le s r)
      where
        all : (j : ℕ) → Still (r + j) × ((p q : ℕ) → p < g.states → q < g.states → told g ends (r + j) p q ≡ told g ends r p q)
        all zero = rw (add-zero r) (h, λ p q _ _. refl)
        all (suc j) =
            let b = all j in
            rw (add-suc r j) (still_on (r + j) b.0, λ p q lp lq. b.0 p q lp lq ∙ b.1 p q lp lq)

    abbrev n : ℕ
    n = g.states

    -- a pair by its number, row by row
    abbrev pair : ℕ → ℕ → Bool
    pair r i = told g ends r (i / n) (i % n)

    pair_still : (r : ℕ) → ((i : ℕ) → i < n * n → pair (suc r) i ≡ pair r i) → Still r
    pair_still r h p q lp lq =
        subst (λ (x : ℕ). told g ends (suc r) p x ≡ told g ends r p x) (digits_mod p lq)
        (subst (λ (x : ℕ). told g ends (suc r) x ((p * n + q) % n) ≡ told g ends r x ((p * n + q) % n)) (digits_div p lq) (h (p * n + q) (digits_lt lp lq)))

    -- any number of symbols tells no more than n * n do
    pub told_settled : (s p q : ℕ) → p < g.states → q < g.states → told g ends s p q ≡ true → told g ends (g.states * g.states) p q ≡ true
    told_settled s p q lp lq e =
        subst (λ (x : ℕ). told g ends (n * n) p x ≡ true) (digits_mod p lq)
        (subst (λ (x : ℕ). told g ends (n * n) x ((p * n + q) % n) ≡ true) (digits_div p lq)
        (sym (stopped (n * n) pair (λ r i _. told_more r (i / n) (i % n)) stays s (p * n + q) (digits_lt lp lq)) ∙ later))
      where
        stays : (r : ℕ) → ((i : ℕ) → i < n * n → pair (suc r) i ≡ pair r i) → (i : ℕ) → i < n * n → pair (suc (suc r)) i ≡ pair (suc r) i
        stays r h i l = still_on r (pair_still r h) (i / n) (i % n) ((div-lt_iff_lt-mul (omega (arith, lp))).1 l) (mod-lt i (omega (arith, lp)))

        later : pair (n * n + s) (p * n + q) ≡ true
        later =
            subst (λ (x : ℕ). told g ends (n * n + s) ((p * n + q) / n) x ≡ true) (sym (digits_mod p lq))
            (subst (λ (x : ℕ). told g ends (n * n + s) x q ≡ true) (sym (digits_div p lq)) (told_up s (n * n + s) p q (omega arith) e))

  -- only the test on states matters
  pub tells_same : (h : ℕ → ℕ → Bool) → Closed g → ((p q : ℕ) → p < g.states → q < g.states → ends p q ≡ h p q)
      → (p q : ℕ) (w : List ℕ) → p < g.states → q < g.states → Tells g ends p q w → Tells g h p q w
  tells_same h c e p q w lp lq t = record { trace = t.trace; apart = sym (e _ _ (run_in c p w lp t.trace) (run_in c q w lq t.trace)) ∙ t.apart }
