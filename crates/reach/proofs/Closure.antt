-- The two closures: states are expanded until none is left. They are stated over tests of states, so that they say nothing of how a set is held.
use mathlib.Core.Path.{◌≡◌, refl, sym, ap, ◌∙◌, subst}
use mathlib.Core.Bool.{Bool, true, false, not, ◌&&◌, ◌||◌}
use mathlib.Core.List.{List, [], ◌∷◌, ◌++◌}
use mathlib.Core.Logic.{⊎_elim}
use Prim.Native.Nat.{ℕ, ◌<◌}
use lib.Dec.{eqb, ltb}
use borrow.Author.Tests.{eqb-true, eq-eqb, lt-ltb, ltb-true}
use Rattle.theory.specs.Below.{any}
use Rattle.theory.specs.Automaton.{Automaton, Closed, Trace, run, Reaches, leads, reached_from}
use Rattle.theory.proofs.Below.{clash, is_true, both_ways, or_cases, or_left, or_right, and_left, and_right, and_both, any_at, any_find}
use Rattle.theory.proofs.Reach.{Hits, hits_here, hits_step, run_append, trace_append, leads_sound, leads_complete, reached_sound, reached_complete}
use Rattle.state_set.specs.declared.StateSet.{StateSet}
use Rattle.state_set.specs.Member.{set_at}
use Rattle.reach.specs.Closure.{leads_to, Joined}
use Rattle.reach.proofs.Predecessors.{Preceding}

-- ---- expanding: `done` are the states q below n for which what q adds has been added

pub record Expanding (n : ℕ) (adds : ℕ → ℕ → Bool) (f seen done : ℕ → Bool) : Type 0 where
  pub holds : (q : ℕ) → f q ≡ true → seen q ≡ true
  pub added : (q p : ℕ) → done q ≡ true → adds q p ≡ true → seen p ≡ true
  pub least : (h : ℕ → Bool) → ((q : ℕ) → f q ≡ true → h q ≡ true) → ((q p : ℕ) → q < n → h q ≡ true → adds q p ≡ true → h p ≡ true)
      → (q : ℕ) → seen q ≡ true → h q ≡ true

module _ {n : ℕ} {adds : ℕ → ℕ → Bool} {f : ℕ → Bool} where
  pub expanding_first : {seen done : ℕ → Bool} → ((p : ℕ) → seen p ≡ f p) → ((p : ℕ) → done p ≡ false) → Expanding n adds f seen done
  expanding_first only none = record {
    holds = λ q t. only q ∙ t;
    added = λ q p e t. absurd (clash e (none q));
    least = λ h w full q t. w q (sym (only q) ∙ t);
  }

  pub expanding_turn : {seen done : ℕ → Bool} (seen' done' : ℕ → Bool) (q : ℕ) → Expanding n adds f seen done → q < n → seen q ≡ true
      → ((p : ℕ) → done' p ≡ (done p || eqb p q)) → ((p : ℕ) → seen' p ≡ (seen p || adds q p)) → Expanding n adds f seen' done'
  expanding_turn {seen} {done} seen' done' q x l here d e = record {
    holds = λ p t. keep p (x.holds p t);
    added = λ p r t a. ⊎_elim (λ o. keep r (x.added p r o a)) (λ i. now r (subst (λ (z : ℕ). adds z r ≡ true) (eqb-true p q i) a))
        (or_cases (done p) (eqb p q) (sym (d p) ∙ t));
    least = λ h w full p t. ⊎_elim (x.least h w full p) (full q p l (x.least h w full q here)) (or_cases (seen p) (adds q p) (sym (e p) ∙ t));
  }
    where
      keep : (p : ℕ) → seen p ≡ true → seen' p ≡ true
      keep p t = e p ∙ or_left (seen p) (adds q p) t

      now : (p : ℕ) → adds q p ≡ true → seen' p ≡ true
      now p t = e p ∙ or_right (seen p) (adds q p) t

  -- with nothing left to expand, what was seen is all
  pub expanding_last : {seen done : ℕ → Bool} → Expanding n adds f seen done → ((q : ℕ) → q < n → (seen q && not (done q)) ≡ false) → Joined n adds f seen
  expanding_last {seen} {done} x none = record {
    holds = x.holds;
    full = λ q p l t a. x.added q p (is_true (λ e. clash (and_both (seen q) (not (done q)) t (ap not e)) (none q l))) a;
    least = x.least;
  }

-- ---- what is joined over successors can be reached

module _ (g : Automaton) where
  reaches_self : (s : ℕ) → Reaches g s s
  unfolding Trace run
  reaches_self s = record { word = []; trace = tt; arrives = refl }

  reaches_step : (s q a : ℕ) → a < g.symbols → Reaches g s q → Reaches g s (g.next q a)
  unfolding Trace run
  reaches_step s q a l r = record {
    word = r.word ++ (a ∷ []);
    trace = trace_append g r.word (a ∷ []) r.trace (l, tt);
    arrives = run_append g s r.word (a ∷ []) ∙ ap (λ (x : ℕ). g.next x a) r.arrives;
  }

  pub joined_reached : {s : ℕ} {f seen : ℕ → Bool} → Closed g → s < g.states → ((p : ℕ) → f p ≡ eqb p s)
      → Joined g.states (λ q p. any g.symbols (leads_to g q p)) f seen → (q : ℕ) → seen q ≡ (ltb q g.states && reached_from g s q)
  unfolding Trace run
  joined_reached {s} {f} {seen} c l only x q =
      both_ways (x.least inside begins goes q)
      (λ t. (let r = reached_sound g s q (and_right (ltb q g.states) (reached_from g s q) t) in
      subst (λ (p : ℕ). seen p ≡ true) r.arrives (along s r.word l (x.holds s (only s ∙ eq-eqb s s refl)) r.trace)))
    where
      inside : ℕ → Bool
      inside p = ltb p g.states && reached_from g s p

      is_inside : (p : ℕ) → p < g.states → Reaches g s p → inside p ≡ true
      is_inside p h r = and_both (ltb p g.states) (reached_from g s p) (lt-ltb p g.states h) (reached_complete c l r)

      begins : (p : ℕ) → f p ≡ true → inside p ≡ true
      begins p e = subst (λ (z : ℕ). inside z ≡ true) (sym (eqb-true p s (sym (only p) ∙ e))) (is_inside s l (reaches_self s))

      goes : (p r : ℕ) → p < g.states → inside p ≡ true → any g.symbols (leads_to g p r) ≡ true → inside r ≡ true
      goes p r h t a =
          let b = any_find g.symbols (leads_to g p r) a in
          subst (λ (z : ℕ). inside z ≡ true) (sym (eqb-true r (g.next p b.0) b.2)) (is_inside (g.next p b.0) (c.next_in p b.0 h b.1)
          (reaches_step s p b.0 b.1 (reached_sound g s p (and_right (ltb p g.states) (reached_from g s p) t))))

      along : (p : ℕ) (w : List ℕ) → p < g.states → seen p ≡ true → Trace g w → seen (run g p w) ≡ true
      along p [] h t v = t
      along p (a ∷ w) h t v =
          let z = g.next p a in
          along z w (c.next_in p a h v.0) (x.full p z h t (any_at g.symbols (leads_to g p z) a v.0 (eq-eqb z z refl))) v.1

-- ---- what is joined over predecessors leads to the test

module _ {g : Automaton} (c : Closed g) (f : ℕ → Bool) where
  -- f, or at a state the test of it
  abbrev or_at : (ℕ → Bool) → ℕ → Bool
  or_at test q = f q || (ltb q g.states && test q)

  or_here : (test : ℕ → Bool) (q : ℕ) → f q ≡ true → or_at test q ≡ true
  or_here test q t = or_left (f q) (ltb q g.states && test q) t

  or_there : (test : ℕ → Bool) (q : ℕ) → q < g.states → test q ≡ true → or_at test q ≡ true
  or_there test q l t = or_right (f q) (ltb q g.states && test q) (and_both (ltb q g.states) (test q) (lt-ltb q g.states l) t)

  -- the second implies the first where the test does
  or_either : (test h : ℕ → Bool) → ((q : ℕ) → f q ≡ true → h q ≡ true) → ((q : ℕ) → q < g.states → test q ≡ true → h q ≡ true)
      → (q : ℕ) → or_at test q ≡ true → h q ≡ true
  or_either test h here there q t =
      ⊎_elim (here q)
      (λ b. there q (ltb-true q g.states (and_left (ltb q g.states) (test q) b)) (and_right (ltb q g.states) (test q) b))
      (or_cases (f q) (ltb q g.states && test q) t)

  pub joined_leads : {sets : List StateSet} {wide : ℕ → Bool} → Preceding g sets → Joined g.states (set_at sets) f wide
      → (q : ℕ) → wide q ≡ (f q || (ltb q g.states && leads g f q))
  unfolding Trace run
  joined_leads {sets} {wide} P w q =
      both_ways (w.least (or_at (leads g f)) (or_here (leads g f)) enter q) (or_either (leads g f) wide w.holds (λ p l t. back p l (leads_sound g f p t)) q)
    where
      hits : (p : ℕ) → or_at (leads g f) p ≡ true → Hits g f p
      hits p t =
          ⊎_elim (hits_here g f p) (λ b. leads_sound g f p (and_right (ltb p g.states) (leads g f p) b))
          (or_cases (f p) (ltb p g.states && leads g f p) t)

      enter : (q p : ℕ) → q < g.states → or_at (leads g f) q ≡ true → set_at sets q p ≡ true → or_at (leads g f) p ≡ true
      enter q p l t a =
          let b = sym (P.at q p l) ∙ a in
          let s = any_find g.symbols (leads_to g p q) (and_right (ltb p g.states) (any g.symbols (leads_to g p q)) b) in
          let m = ltb-true p g.states (and_left (ltb p g.states) (any g.symbols (leads_to g p q)) b) in
          or_there (leads g f) p m (leads_complete g f c p m (hits_step g f p s.0 s.1
          (subst (Hits g f) (eqb-true q (g.next p s.0) s.2) (hits q t))))

      along : (p : ℕ) (v : List ℕ) → p < g.states → Trace g v → f (run g p v) ≡ true → wide p ≡ true
      along p [] l h e = w.holds p e
      along p (a ∷ v) l h e =
          let z = g.next p a in
          let m = c.next_in p a l h.0 in
          w.full z p m (along z v m h.1 e) (P.at z p m
          ∙ and_both (ltb p g.states) (any g.symbols (leads_to g p z)) (lt-ltb p g.states l)
          (any_at g.symbols (leads_to g p z) a h.0 (eq-eqb z z refl)))

      back : (p : ℕ) → p < g.states → Hits g f p → wide p ≡ true
      back p l h = along p h.word l h.trace h.passes
