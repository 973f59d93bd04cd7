-- The numbers that compute are those of the published definitions: `class` of definition 8, `monitorability` of definition 10 and lemma 3.
use mathlib.Core.Path.{◌≡◌, refl, sym, ap, subst}
use mathlib.Core.Bool.{Bool, true, false, cond}
use mathlib.Core.Logic.{◌↔◌}
use Prim.Native.Nat.{ℕ, zero, suc, ◌≤◌, ◌<◌}
use native.Mathlib.Omega.{arith}
use lib.Dec.{eqb}
use borrow.Author.Tests.{eqb-true, eq-eqb}
use Rattle.theory.specs.Below.{any}
use Rattle.theory.specs.Automaton.{run, Reaches, leads}
use Rattle.theory.specs.Monitor.{Monitor, WellFormed, Finds, Class, good, bad, positive, negative, neutral, ugly, weak, Monitorability, none, as_start}
use Rattle.theory.specs.Monitor.{marked, class_from, class, reached, ugly_reached, monitorability}
use Rattle.theory.proofs.Below.{clash, not_clash, and_left, and_right, and_both, any_at, any_find}
use Rattle.theory.proofs.Reach.{run_in, reaches_hits, leads_sound, leads_complete, reached_sound, reached_complete}

module _ {limit : ℕ} {m : Monitor} (w : WellFormed limit m) where
  -- ---- which verdicts can be found

  pub found : (v q : ℕ) → leads m.automaton (marked m v) q ≡ true → Finds m v q
  found v q e =
      let h = leads_sound m.automaton (marked m v) q e in
      record {
        state = run m.automaton q h.word;
        reaches = record { word = h.word; trace = h.trace; arrives = refl };
        reads = eqb-true (m.verdict (run m.automaton q h.word)) v h.passes;
      }

  pub sought : (v q : ℕ) → q < m.automaton.states → Finds m v q → leads m.automaton (marked m v) q ≡ true
  sought v q l f =
      leads_complete m.automaton (marked m v) w.closed q l (reaches_hits (marked m v) (eq-eqb (m.verdict f.state) v f.reads) f.reaches)

  missed : (v q : ℕ) → q < m.automaton.states → leads m.automaton (marked m v) q ≡ false → ¬ (Finds m v q)
  missed v q l e f = clash (sought v q l f) e

  unfound : (v q : ℕ) → ¬ (Finds m v q) → leads m.automaton (marked m v) q ≡ false
  unfound v q n = not_clash (λ t. n (found v q t))

  -- ---- classes

  module _ (q : ℕ) (l : q < m.automaton.states) where
    class_is : Class m q (class m q)
    unfolding class
    class_is =
        go (m.verdict q) refl (w.verdict_in q l) (leads m.automaton (marked m 1) q) refl (leads m.automaton (marked m 2) q) refl
      where
        go : (v : ℕ) → m.verdict q ≡ v → v ≤ 2 → (t : Bool) → leads m.automaton (marked m 1) q ≡ t → (f : Bool) → leads m.automaton (marked m 2) q ≡ f
            → Class m q (class_from v t f)
        go zero e r true a false b = positive e (found 1 q a) (missed 2 q l b)
        go zero e r false a true b = negative e (missed 1 q l a) (found 2 q b)
        go zero e r true a true b = neutral e (found 1 q a) (found 2 q b)
        go zero e r false a false b = ugly e (missed 1 q l a) (missed 2 q l b)
        go (suc zero) e r t a f b = good e
        go (suc (suc v)) e r t a f b = bad (omega arith)

    class_only : {c : ℕ} → Class m q c → c ≡ class m q
    unfolding class
    class_only (good e) = rw e
    class_only (bad e) = rw e
    class_only (positive e t f) = rw (e, sought 1 q l t, unfound 2 q f)
    class_only (negative e t f) = rw (e, unfound 1 q t, sought 2 q l f)
    class_only (neutral e t f) = rw (e, sought 1 q l t, sought 2 q l f)
    class_only (ugly e t f) = rw (e, unfound 1 q t, unfound 2 q f)

    -- every state has exactly one class, and it is `class`
    pub class_exact : (c : ℕ) → Class m q c ↔ (c ≡ class m q)
    class_exact c = (class_only, λ e. subst (Class m q) (sym e) class_is)

  -- ---- monitorability

  pub reached_in : (q : ℕ) → Reaches m.automaton m.start q → q < m.automaton.states
  reached_in q r = subst (λ (p : ℕ). p < m.automaton.states) r.arrives (run_in w.closed m.start r.word w.start_in r.trace)

  ugly_found : any m.automaton.states (ugly_reached m) ≡ true → (q : ℕ) × Reaches m.automaton m.start q × Class m q 5
  ugly_found e =
      let b = any_find m.automaton.states (ugly_reached m) e in
      let r = and_left (reached m b.0) (eqb (class m b.0) 5) b.2 in
      let u = and_right (reached m b.0) (eqb (class m b.0) 5) b.2 in
      (b.0, reached_sound m.automaton m.start b.0 r, (class_exact b.0 b.1 5).1 (sym (eqb-true (class m b.0) 5 u)))

  ugly_sought : (q : ℕ) → Reaches m.automaton m.start q → Class m q 5 → any m.automaton.states (ugly_reached m) ≡ true
  ugly_sought q r u =
      any_at m.automaton.states (ugly_reached m) q (reached_in q r)
      (and_both (reached m q) (eqb (class m q) 5) (reached_complete w.closed w.start_in r)
      (eq-eqb (class m q) 5 (sym ((class_exact q (reached_in q r) 5).0 u))))

  monitorability_is : Monitorability m (monitorability m)
  unfolding monitorability
  monitorability_is = go (any m.automaton.states (ugly_reached m)) refl
    where
      go : (b : Bool) → any m.automaton.states (ugly_reached m) ≡ b → Monitorability m (cond b 3 (weak (class m m.start)))
      go true e = (let u = ugly_found e in none u.0 u.1 u.2)
      go false e = as_start (class m m.start) (λ q r u. clash (ugly_sought q r u) e) (class_is m.start w.start_in)

  monitorability_only : {r : ℕ} → Monitorability m r → r ≡ monitorability m
  unfolding monitorability
  monitorability_only (none q r u) = rw (ugly_sought q r u)
  monitorability_only (as_start c n s) =
      rw (not_clash {b = any m.automaton.states (ugly_reached m)} (λ t. (let u = ugly_found t in n u.0 u.1 u.2)))
      (ap weak (class_only m.start w.start_in s))

  -- every monitor has exactly one monitorability, and it is `monitorability`
  pub monitorability_exact : (r : ℕ) → Monitorability m r ↔ (r ≡ monitorability m)
  monitorability_exact r = (monitorability_only, λ e. subst (Monitorability m) (sym e) monitorability_is)

  -- `reached` says exactly that the state can be reached from the start
  pub reached_exact : (q : ℕ) → (reached m q ≡ true) ↔ Reaches m.automaton m.start q
  reached_exact q = (reached_sound m.automaton m.start q, reached_complete w.closed w.start_in)
