-- What every fault step of a set is like, shown once for all kinds; and the list of a set's steps rises in the written order.
use mathlib.Core.Path.{◌≡◌, refl, sym, ap, ◌∙◌, subst}
use mathlib.Core.Bool.{Bool, true, false, cond}
use mathlib.Core.List.{List, [], ◌∷◌}
use mathlib.Core.Logic.{◌⊎◌, inl, inr, ⊎_elim}
use Prim.Native.Nat.{ℕ, zero, suc, ◌≤◌, ◌<◌, ◌^◌}
use native.Mathlib.Nat.{le_refl}
use native.Mathlib.Omega.{arith}
use lib.ListN.{length}
use lib.Pow.{pow-lt}
use Rattle.theory.specs.Lists.{In, each, Rising}
use Rattle.theory.specs.Automaton.{Automaton, Trace}
use Rattle.theory.specs.Faults.{FaultStep, kinds, step_of, seconds, holds, repetition, together, steps_of_kind, steps}
use Rattle.theory.specs.Series.{StepFirst}
use Rattle.theory.proofs.Below.{clash, or_cases, or_left, or_right}
use Rattle.theory.proofs.Lists.{each_in, in_each, rising_each}
use Rattle.theory.proofs.Bits.{bit_or_lem}

-- a step of the set: a kind that the set holds, at symbols below k
pub record Held (set k : ℕ) (s : FaultStep) : Type 0 where
  pub place : ℕ
  pub first : ℕ
  pub second : ℕ
  pub place_in : place < kinds
  pub held : holds set place ≡ true
  pub first_in : first < k
  pub second_in : second < seconds place k
  pub is : s ≡ step_of place first second

abbrev pairs_of : ℕ → ℕ → ℕ → List FaultStep
pairs_of k c a = each (seconds c k) (λ b. step_of c a b ∷ [])

module _ (set k : ℕ) where
  abbrev of_kind : ℕ → List FaultStep
  of_kind c = cond (holds set c) (steps_of_kind k c) []

  pub steps_held : (s : FaultStep) → In s (steps set k) → Held set k s
  unfolding steps
  steps_held s i = (let c = in_each s kinds of_kind i in go c.index c.below (holds set c.index) refl c.here)
    where
      go : (c : ℕ) → c < kinds → (b : Bool) → holds set c ≡ b → In s (cond b (steps_of_kind k c) []) → Held set k s
      go c l true e h =
          let a = in_each s k (pairs_of k c) h in
          let b = in_each s (seconds c k) (λ b. step_of c a.index b ∷ []) a.here in
          let is = ⊎_elim (λ q. q) (λ f. absurd f) b.here in
          record { place = c; first = a.index; second = b.index; place_in = l; held = e; first_in = a.below; second_in = b.below; is = is }
      go c l false e h = absurd h

  -- a step of one set is a step of every set that has its kind
  pub held_steps : {F : ℕ} (s : FaultStep) (h : Held F k s) → holds set h.place ≡ true → In s (steps set k)
  unfolding steps
  held_steps s h e =
      each_in s kinds of_kind h.place h.place_in (rw e (each_in s k (pairs_of k h.place) h.first h.first_in
      (each_in s (seconds h.place k) (λ b. step_of h.place h.first b ∷ []) h.second h.second_in (inl h.is))))

-- ---- the written order

kind_is : (c a b : ℕ) → c < kinds → (step_of c a b).kind ≡ 2 ^ c
kind_is zero a b l = refl
kind_is (suc zero) a b l = refl
kind_is (suc (suc zero)) a b l = refl
kind_is (suc (suc (suc zero))) a b l = refl
kind_is (suc (suc (suc (suc c)))) a b l = absurd (omega arith)

-- of one kind: a lower first symbol stands first, and then a lower second one
firsts_rise : (c k a e b f : ℕ) → a < e → f < seconds c k → StepFirst (step_of c a b) (step_of c e f)
firsts_rise zero k a e b f l m = inr (refl, inl (inl l))
firsts_rise (suc zero) k a e b f l m = inr (refl, inl (inl l))
firsts_rise (suc (suc zero)) k a e b f l m = inr (refl, inl (inl l))
firsts_rise (suc (suc (suc zero))) k a e b f l m = inr (refl, inl (inl l))
firsts_rise (suc (suc (suc (suc c)))) k a e b f l m = absurd (omega arith)

seconds_rise : (c k a b f : ℕ) → b < f → f < seconds c k → StepFirst (step_of c a b) (step_of c a f)
seconds_rise zero k a b f l m = absurd (omega arith)
seconds_rise (suc zero) k a b f l m = inr (refl, inr (refl, l))
seconds_rise (suc (suc zero)) k a b f l m = absurd (omega arith)
seconds_rise (suc (suc (suc zero))) k a b f l m = inr (refl, inl (inr (refl, inl l)))
seconds_rise (suc (suc (suc (suc c)))) k a b f l m = absurd (omega arith)

-- a step out of a list of one
only : (s t : FaultStep) → In s (t ∷ []) → s ≡ t
only s t i = ⊎_elim (λ e. e) (λ f. absurd f) i

over : (s t x y : FaultStep) → x ≡ s → y ≡ t → StepFirst s t → StepFirst x y
over s t x y e h r = subst (λ (u : FaultStep). StepFirst u y) (sym e) (subst (λ (u : FaultStep). StepFirst s u) (sym h) r)

pub steps_rise : (set k : ℕ) → Rising StepFirst (steps set k)
unfolding steps
steps_rise set k = rising_each StepFirst kinds (of_kind set k) (λ c _. one c (holds set c)) (λ c e l m x y i j. two c e l m (holds set c) (holds set e) x y i j)
  where
    pairs_rise : (c a : ℕ) → Rising StepFirst (pairs_of k c a)
    pairs_rise c a =
        rising_each StepFirst (seconds c k) (λ b. step_of c a b ∷ []) (λ b _. (λ y i. absurd i, tt))
        (λ b f l m x y i j. over (step_of c a b) (step_of c a f) x y (only x (step_of c a b) i) (only y (step_of c a f) j) (seconds_rise c k a b f l m))

    one : (c : ℕ) (b : Bool) → Rising StepFirst (cond b (steps_of_kind k c) [])
    one c true =
        rising_each StepFirst k (pairs_of k c) (λ a _. pairs_rise c a)
        (λ a e l _ x y i j.
        let b = in_each x (seconds c k) (λ b. step_of c a b ∷ []) i in
        let f = in_each y (seconds c k) (λ b. step_of c e b ∷ []) j in
        over (step_of c a b.index) (step_of c e f.index) x y (only x (step_of c a b.index) b.here) (only y (step_of c e f.index) f.here)
        (firsts_rise c k a e b.index f.index l f.below))
    one c false = tt

    in_kind : (c : ℕ) (x : FaultStep) → c < kinds → In x (steps_of_kind k c) → x.kind ≡ 2 ^ c
    in_kind c x l i =
        let a = in_each x k (pairs_of k c) i in
        let b = in_each x (seconds c k) (λ b. step_of c a.index b ∷ []) a.here in
        ap (λ (s : FaultStep). s.kind) (only x (step_of c a.index b.index) b.here) ∙ kind_is c a.index b.index l

    two : (c e : ℕ) → c < e → e < kinds → (p q : Bool) (x y : FaultStep) → In x (cond p (steps_of_kind k c) []) → In y (cond q (steps_of_kind k e) [])
        → StepFirst x y
    two c e l m true true x y i j = (let u = in_kind c x (omega arith) i in let v = in_kind e y m j in let r = pow-lt l in inl (omega (arith, u, v, r)))
    two c e l m true false x y i j = absurd j
    two c e l m false q x y i j = absurd i

-- ---- any fault step

pub record Good (g : Automaton) (s : FaultStep) : Type 0 where
  pub sent_trace_lem : Trace g s.sent
  pub received_trace_lem : Trace g s.received
  pub covers : 1 ≤ length s.sent
  pub short : length s.sent ≤ 2

step_good : (g : Automaton) (c a b : ℕ) → a < g.symbols → b < seconds c g.symbols → Good g (step_of c a b)
unfolding Trace
step_good g zero a b la lb = record { sent_trace_lem = (la, tt); received_trace_lem = tt; covers = le_refl 1; short = omega arith }
step_good g (suc zero) a b la lb = record { sent_trace_lem = (la, tt); received_trace_lem = (lb, tt); covers = le_refl 1; short = omega arith }
step_good g (suc (suc zero)) a b la lb = record { sent_trace_lem = (la, tt); received_trace_lem = (la, (la, tt)); covers = le_refl 1; short = omega arith }
step_good g (suc (suc (suc zero))) a b la lb = record { sent_trace_lem = (la, (lb, tt)); received_trace_lem = (lb, (la, tt)); covers = omega arith; short = le_refl 2 }
step_good g (suc (suc (suc (suc c)))) a b la lb = absurd (omega arith)

pub steps_good : (g : Automaton) (set : ℕ) (s : FaultStep) → In s (steps set g.symbols) → Good g s
steps_good g set s i =
    let h = steps_held set g.symbols s i in
    subst (Good g) (sym h.is) (step_good g h.place h.first h.second h.first_in h.second_in)

-- a set without repetition delivers no more than it covers
pub steps_shrink : (set k : ℕ) → holds set repetition ≡ false → (s : FaultStep) → In s (steps set k) → length s.received ≤ length s.sent
steps_shrink set k without s i =
    let h = steps_held set k s i in
    subst (λ (t : FaultStep). length t.received ≤ length t.sent) (sym h.is) (go h.place h.held h.first h.second)
  where
    go : (c : ℕ) → holds set c ≡ true → (a b : ℕ) → length (step_of c a b).received ≤ length (step_of c a b).sent
    go zero e a b = omega arith
    go (suc zero) e a b = le_refl 1
    go (suc (suc zero)) e a b = absurd (clash e without)
    go (suc (suc (suc zero))) e a b = le_refl 2
    go (suc (suc (suc (suc c)))) e a b = le_refl 0

wider : (F G k : ℕ) (s : FaultStep) → ((c : ℕ) → holds F c ≡ true → holds G c ≡ true) → In s (steps F k) → In s (steps G k)
wider F G k s over i = (let h = steps_held F k s i in held_steps G k s h (over h.place h.held))

-- two sets together have the steps of either, and no other
pub of_either : (F G k : ℕ) (s : FaultStep) → In s (steps (together F G) k) → In s (steps F k) ⊎ In s (steps G k)
of_either F G k s i =
    let h = steps_held (together F G) k s i in
    ⊎_elim (λ e. inl (held_steps F k s h e)) (λ e. inr (held_steps G k s h e))
    (or_cases (holds F h.place) (holds G h.place) (sym (bit_or_lem F G h.place) ∙ h.held))

pub first_of_two : (F G k : ℕ) (s : FaultStep) → In s (steps F k) → In s (steps (together F G) k)
first_of_two F G k s = wider F (together F G) k s (λ c e. bit_or_lem F G c ∙ or_left (holds F c) (holds G c) e)

pub second_of_two : (F G k : ℕ) (s : FaultStep) → In s (steps G k) → In s (steps (together F G) k)
second_of_two F G k s = wider G (together F G) k s (λ c e. bit_or_lem F G c ∙ or_right (holds F c) (holds G c) e)
