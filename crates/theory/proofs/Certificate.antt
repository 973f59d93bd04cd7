-- Certificates: no state is at fault exactly if the blocks agree; a valid one means immune; the one that is made is valid for every immune table.
use mathlib.Core.Path.{◌≡◌, refl, sym, ap, ◌∙◌, subst}
use mathlib.Core.Bool.{Bool, true, false, not, ◌&&◌}
use mathlib.Core.List.{List, [], ◌∷◌}
use mathlib.Core.Logic.{◌↔◌, ⊎_elim}
use Prim.Native.Nat.{ℕ, ◌*◌, ◌≤◌, ◌<◌, zero-le}
use native.Mathlib.Nat.{le_refl, le_antisymm}
use native.Mathlib.Omega.{arith}
use lib.Dec.{eqb}
use lib.ListN.{length}
use borrow.Author.Tests.{eqb-true, eqb-false, eq-eqb, not-true}
use Rattle.theory.specs.Below.{first}
use Rattle.theory.specs.Lists.{In, any_in}
use Rattle.theory.specs.Automaton.{Automaton, Trace, run, Reaches}
use Rattle.theory.specs.Monitor.{Monitor, WellFormed, reading, reached}
use Rattle.theory.specs.Pairs.{told}
use Rattle.theory.specs.Faults.{FaultStep}
use Rattle.theory.specs.Series.{Series}
use Rattle.theory.specs.Distance.{differ, faults_of}
use Rattle.theory.specs.Certificate.{block_of, Certificate, same_block, disagrees, step_alike, parts, parted, NeverApart, alike, lowest_alike}
use Rattle.theory.specs.Certificate.{made_blocks}
use Rattle.theory.proofs.Below.{clash, not_clash, is_true, and_left, and_right, and_both, lt_or_le, any_at, any_find, every_at, every_all}
use Rattle.theory.proofs.Below.{first_is, first_le, first_below, first_here}
use Rattle.theory.proofs.Lists.{any_in_at, any_in_find}
use Rattle.theory.proofs.Values.{get_or_values, length_values}
use Rattle.theory.proofs.Reach.{run_in}
use Rattle.theory.proofs.Exact.{reached_exact, reached_in}
use Rattle.theory.proofs.Pairs.{told_sound, told_complete, told_settled}
use Rattle.theory.proofs.Faults.{steps_good}
use Rattle.theory.proofs.Witness.{harmed_harm, harm_tells, tells_harm, harm_harmed}
use Rattle.theory.proofs.Distance.{Immune}

-- ---- states that agree

-- the test is an equivalence
pub record Equivalence (agree : ℕ → ℕ → Bool) : Type 0 where
  pub itself : (p : ℕ) → agree p p ≡ true
  pub others : (r p q : ℕ) → agree r p ≡ true → agree r q ≡ true → agree p q ≡ true

module _ (agree : ℕ → ℕ → Bool) (c : List ℕ) where
  -- states of a block agree
  abbrev pub BlocksAgree : ℕ → Type 0
  BlocksAgree n = (p q : ℕ) → p < n → q < n → block_of c p ≡ block_of c q → agree p q ≡ true

  -- p is in the block of q, and they disagree
  abbrev against : ℕ → ℕ → Bool
  against q p = same_block c p q && not (agree p q)

  -- q disagrees exactly if some lower state of its block is against it
  pub disagrees_at : (p q : ℕ) → p < q → block_of c p ≡ block_of c q → agree p q ≡ false → disagrees agree c q ≡ true
  disagrees_at p q l e h =
      any_at q (against q) p l (and_both (same_block c p q) (not (agree p q)) (eq-eqb (block_of c p) (block_of c q) e) (ap not h))

  pub disagrees_by : (q : ℕ) → disagrees agree c q ≡ true → (p : ℕ) × (p < q) × (block_of c p ≡ block_of c q) × (agree p q ≡ false)
  disagrees_by q t =
      let b = any_find q (against q) t in
      let p = b.0 in (
        p,
        b.1,
        eqb-true (block_of c p) (block_of c q) (and_left (same_block c p q) (not (agree p q)) b.2),
        not-true (agree p q) (and_right (same_block c p q) (not (agree p q)) b.2),
      )

  -- no state is at fault: the first of n states that disagrees with a lower state of its block is n
  pub none_disagrees : Equivalence agree → (n : ℕ) → first (disagrees agree c) 0 n ≡ n → BlocksAgree n
  none_disagrees equal n none p q lp lq e =
      ⊎_elim (λ l. lower p q l lq e)
      (λ (l : q ≤ p). ⊎_elim (λ l. equal.others q p q (lower q p l lp (sym e)) (equal.itself q))
      (λ (m : p ≤ q). subst (λ (x : ℕ). agree p x ≡ true) (le_antisymm m l) (equal.itself p)) (lt_or_le q p)) (lt_or_le p q)
    where
      lower : (p q : ℕ) → p < q → q < n → block_of c p ≡ block_of c q → agree p q ≡ true
      lower p q l lq e = is_true (λ h. clash (disagrees_at p q l e h) (first_below (disagrees agree c) 0 n q zero-le (omega (arith, none, lq))))

  pub agree_none : (n : ℕ) → BlocksAgree n → first (disagrees agree c) 0 n ≡ n
  agree_none n all =
      first_is (disagrees agree c) n 0 n zero-le (omega arith)
      (λ q _ l. not_clash (λ t. (let d = disagrees_by q t in clash (all d.0 q (omega (arith, d.1, l)) l d.2) d.3)))
      (λ l. absurd (omega arith))

-- ---- the tests of questions 16, 17 and 18

pub equal_numbers : (f : ℕ → ℕ) → Equivalence (λ p q. eqb (f p) (f q))
equal_numbers f = record {
  itself = λ p. eq-eqb (f p) (f p) refl;
  others = λ r p q a b. eq-eqb (f p) (f q) (sym (eqb-true (f r) (f p) a) ∙ eqb-true (f r) (f q) b);
}

module _ (g : Automaton) (c : List ℕ) where
  pub step_at_lem : (p q : ℕ) → step_alike g c p q ≡ true → (a : ℕ) → a < g.symbols → block_of c (g.next p a) ≡ block_of c (g.next q a)
  step_at_lem p q e a l = eqb-true (block_of c (g.next p a)) (block_of c (g.next q a)) (every_at g.symbols (λ a. same_block c (g.next p a) (g.next q a)) e a l)

  pub step_all : (p q : ℕ) → ((a : ℕ) → a < g.symbols → block_of c (g.next p a) ≡ block_of c (g.next q a)) → step_alike g c p q ≡ true
  step_all p q h =
      every_all g.symbols (λ a. same_block c (g.next p a) (g.next q a)) (λ a l. eq-eqb (block_of c (g.next p a)) (block_of c (g.next q a)) (h a l))

  pub steps_equal : Equivalence (step_alike g c)
  steps_equal = record {
    itself = λ p. step_all p p (λ a l. refl);
    others = λ r p q x y. step_all p q (λ a l. sym (step_at_lem r p x a l) ∙ step_at_lem r q y a l);
  }

module _ {limit : ℕ} {m : Monitor} (w : WellFormed limit m) where
  abbrev g : Automaton
  g = m.automaton

  abbrev n : ℕ
  n = m.automaton.states

  -- every fault step from a reachable state stays within a block
  abbrev pub FaultsAgree : ℕ → List ℕ → Type 0
  FaultsAgree set c =
      (p : ℕ) (s : FaultStep) → Reaches g m.start p → In s (faults_of m set) → block_of c (run g p s.sent) ≡ block_of c (run g p s.received)

  module _ (set : ℕ) (c : List ℕ) where
    pub none_parted : first (parted m set c) 0 n ≡ n → FaultsAgree set c
    none_parted none p s r i =
        let x = block_of c (run g p s.sent) in
        let y = block_of c (run g p s.received) in
        eqb-true x y (is_true (λ h. clash
        (and_both (reached m p) (any_in (parts g c p) (faults_of m set)) ((reached_exact w p).1 r) (any_in_at (parts g c p) (faults_of m set) i (ap not h)))
        (first_below (parted m set c) 0 n p zero-le (omega (arith, none, reached_in w p r)))))

    pub agree_unparted : FaultsAgree set c → first (parted m set c) 0 n ≡ n
    agree_unparted all = first_is (parted m set c) n 0 n zero-le (omega arith) (λ p _ l. not_clash (fault p)) (λ l. absurd (omega arith))
      where
        fault : (p : ℕ) → parted m set c p ≡ true → ⊥
        fault p t =
            let can = reached m p in
            let some = any_in (parts g c p) (faults_of m set) in
            let b = any_in_find (parts g c p) (faults_of m set) (and_right can some t) in
            let s = b.0 in
            let x = block_of c (run g p s.sent) in
            let y = block_of c (run g p s.received) in
            eqb-false x y (not-true (eqb x y) b.2) (all p s ((reached_exact w p).0 (and_left can some t)) b.1)

  -- ---- a valid certificate means immune

  module _ {d set : ℕ} {c : List ℕ} (valid : Certificate m d set c) where
    -- after every trace two states of a block are in one block
    stay : (v : List ℕ) (p q : ℕ) → p < n → q < n → Trace g v → block_of c p ≡ block_of c q → block_of c (run g p v) ≡ block_of c (run g q v)
    unfolding Trace run
    stay [] p q lp lq t e = e
    stay (a ∷ v) p q lp lq t e =
        stay v (g.next p a) (g.next q a) (w.closed.next_in p a lp t.0) (w.closed.next_in q a lq t.0) t.1
        (valid.messages p q a lp lq t.0 e)

    pub valid_immune : Immune m d set
    valid_immune x h =
        let F = faults_of m set in
        let s = h.fault.by in
        let told = harm_tells g (differ m d) F m.start s (harmed_harm g (differ m d) F h) in
        let v = h.fault.valid in
        let p = run g m.start s.before in
        let good = steps_good g set s.fault v.known in
        let p_in = run_in w.closed m.start s.before w.start_in v.before_trace in
        let sent_in = run_in w.closed p s.fault.sent p_in good.sent_trace_lem in
        let received_in = run_in w.closed p s.fault.received p_in good.received_trace_lem in
        let one = valid.faults p s.fault (record { word = s.before; trace = v.before_trace; arrives = refl }) v.known in
        let end = stay s.after (run g p s.fault.sent) (run g p s.fault.received) sent_in received_in v.after_trace one in
        let x = run g (run g p s.fault.sent) s.after in
        let y = run g (run g p s.fault.received) s.after in
        eqb-false (reading m d x) (reading m d y) (not-true (eqb (reading m d x) (reading m d y)) told.apart)
        (valid.readings x y (run_in w.closed _ s.after sent_in v.after_trace) (run_in w.closed _ s.after received_in v.after_trace) end)

  -- ---- the certificate that is made

  module _ (d : ℕ) where
    -- the test says exactly that two states are never told apart
    pub alike_exact : (p q : ℕ) → p < n → q < n → (alike m d p q ≡ true) ↔ NeverApart m d p q
    alike_exact p q lp lq = (never, untold)
      where
        never : alike m d p q ≡ true → NeverApart m d p q
        never e v t =
            let x = reading m d (run g p v) in
            let y = reading m d (run g q v) in
            eqb-true x y (is_true (λ h. clash (told_settled g (differ m d) w.closed (length v) p q lp lq
            (told_complete g (differ m d) (length v) p q v (le_refl (length v)) (record { trace = t; apart = ap not h })))
            (not-true (told g (differ m d) (n * n) p q) e)))

        untold : NeverApart m d p q → alike m d p q ≡ true
        untold h = ap not (not_clash (λ t.
            let s = told_sound g (differ m d) (n * n) p q t in
            let x = reading m d (run g p s.word) in
            let y = reading m d (run g q s.word) in
            eqb-false x y (not-true (eqb x y) s.tells.apart) (h s.word s.tells.trace)))

    never_turned : (p q : ℕ) → NeverApart m d p q → NeverApart m d q p
    never_turned p q h v t = sym (h v t)

    never_then : (p q r : ℕ) → NeverApart m d p q → NeverApart m d q r → NeverApart m d p r
    never_then p q r h k v t = h v t ∙ k v t

    module _ (q : ℕ) (l : q < n) where
      lowest_most : lowest_alike m d q ≤ q
      lowest_most = omega (arith, first_le (λ p. alike m d p q) 0 q)

      pub lowest_never : NeverApart m d (lowest_alike m d q) q
      lowest_never = ⊎_elim
          (λ (b : lowest_alike m d q < q). (alike_exact (lowest_alike m d q) q (omega (arith, b, l)) l).0 (first_here (λ p. alike m d p q) 0 q (omega (arith, b))))
          (λ (b : q ≤ lowest_alike m d q). subst (λ (x : ℕ). NeverApart m d x q) (le_antisymm b lowest_most) (λ v t. refl))
          (lt_or_le (lowest_alike m d q) q)

      -- every lower state is told apart from it
      pub lowest_least : (p : ℕ) → p < lowest_alike m d q → NeverApart m d p q → ⊥
      lowest_least p b h =
          clash ((alike_exact p q (omega (arith, b, l, lowest_most)) l).1 h) (first_below (λ p. alike m d p q) 0 q p zero-le b)

      pub made_block : block_of (made_blocks m d) q ≡ lowest_alike m d q
      made_block = get_or_values n (lowest_alike m d) q l

    -- two states have one lowest state exactly if they are never told apart
    module _ (p q : ℕ) (lp : p < n) (lq : q < n) where
      lowest_at_least : NeverApart m d p q → lowest_alike m d q ≤ lowest_alike m d p
      lowest_at_least h =
          ⊎_elim
          (λ (b : lowest_alike m d p < lowest_alike m d q).
          absurd (lowest_least q lq (lowest_alike m d p) b (never_then (lowest_alike m d p) p q (lowest_never p lp) h)))
          (λ b. b) (lt_or_le (lowest_alike m d p) (lowest_alike m d q))

    same_lowest : (p q : ℕ) → p < n → q < n → NeverApart m d p q → lowest_alike m d p ≡ lowest_alike m d q
    same_lowest p q lp lq h = le_antisymm (lowest_at_least q p lq lp (never_turned p q h)) (lowest_at_least p q lp lq h)

    lowest_same : (p q : ℕ) → p < n → q < n → lowest_alike m d p ≡ lowest_alike m d q → NeverApart m d p q
    lowest_same p q lp lq e =
        let near = subst (λ (x : ℕ). NeverApart m d x p) e (lowest_never p lp) in
        never_then p (lowest_alike m d q) q (never_turned (lowest_alike m d q) p near) (lowest_never q lq)

    -- it is valid for every set to which the table is immune
    module _ (set : ℕ) where
      unharmed : Immune m d set → (p : ℕ) (s : FaultStep) → Reaches g m.start p → In s (faults_of m set)
          → NeverApart m d (run g p s.sent) (run g p s.received)
      unharmed safe p s r i v t =
          let F = faults_of m set in
          let word : Series = record { before = r.word; fault = s; after = v } in
          let x = reading m d (run g (run g p s.sent) v) in
          let y = reading m d (run g (run g p s.received) v) in
          eqb-true x y (is_true (λ h. safe _ (harm_harmed g (differ m d) F {q = m.start} {s = word} (tells_harm g (differ m d) F m.start word r.trace i
          (record {
            trace = t;
            apart = subst (λ (z : ℕ). differ m d (run g (run g z s.sent) v) (run g (run g z s.received) v) ≡ true) (sym r.arrives)
                (ap not h);
          })))))

      pub made_valid : Immune m d set → Certificate m d set (made_blocks m d)
      unfolding Trace run
      made_valid safe = record {
        size = length_values n (lowest_alike m d);
        below = λ q l. rw (made_block q l) (omega (arith, lowest_most q l, l));
        readings = λ p q lp lq e. same p q lp lq e [] tt;
        messages = λ p q a lp lq la e. joined (g.next p a) (g.next q a) (w.closed.next_in p a lp la) (w.closed.next_in q a lq la)
            (λ v t. same p q lp lq e (a ∷ v) (la, t));
        faults = λ p s r i.
            let good = steps_good g set s i in
            let p_in = reached_in w p r in
            joined (run g p s.sent) (run g p s.received) (run_in w.closed p s.sent p_in good.sent_trace_lem)
            (run_in w.closed p s.received p_in good.received_trace_lem) (unharmed safe p s r i);
      }
        where
          same : (p q : ℕ) → p < n → q < n → block_of (made_blocks m d) p ≡ block_of (made_blocks m d) q → NeverApart m d p q
          same p q lp lq e = lowest_same p q lp lq (sym (made_block p lp) ∙ e ∙ made_block q lq)

          joined : (p q : ℕ) → p < n → q < n → NeverApart m d p q → block_of (made_blocks m d) p ≡ block_of (made_blocks m d) q
          joined p q lp lq h = made_block p lp ∙ same_lowest p q lp lq h ∙ sym (made_block q lq)
