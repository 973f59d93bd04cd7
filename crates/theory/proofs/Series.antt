-- The series of one length: exactly the valid ones, rising in the written order.
use mathlib.Core.Path.{◌≡◌, refl, sym, ap, ◌∙◌, subst}
use mathlib.Core.Bool.{Bool, true, false, cond}
use mathlib.Core.List.{List, [], ◌∷◌, ◌++◌, map, flat_map}
use mathlib.Core.Logic.{inl, inr, ⊎_elim}
use Prim.Native.Nat.{ℕ, zero, suc, ◌+◌, ◌-◌, ◌<◌}
use native.Mathlib.Nat.{add-sub_of_le}
use native.Mathlib.Omega.{arith}
use lib.Dec.{leb}
use lib.ListN.{length, length-append}
use borrow.Author.Tests.{leb-true, le-leb}
use Rattle.theory.specs.Lists.{In, each, Rising}
use Rattle.theory.specs.Automaton.{Automaton, Trace}
use Rattle.theory.specs.Faults.{FaultStep}
use Rattle.theory.specs.Series.{Series, Valid, sent_trace, Lower, StepFirst, StepByStep, Precedes, words, struck, plain, series}
use Rattle.theory.proofs.Lists.{in_left, in_right, in_either, each_in, in_each, map_in, in_map, flat_map_in, in_flat_map, rising_append, rising_each}
use Rattle.theory.proofs.Lists.{rising_map, rising_flat_map}

-- a series that begins with the fault step s
abbrev pub begin : FaultStep → List ℕ → Series
begin s w = record { before = []; fault = s; after = w }

module _ (g : Automaton) where
  -- ---- traces of one length

  pub words_in : (l : ℕ) (w : List ℕ) → In w (words g.symbols l) → Trace g w × (length w ≡ l)
  unfolding words Trace
  words_in zero w i = ⊎_elim (λ (e : w ≡ []). subst (λ (v : List ℕ). Trace g v × (length v ≡ 0)) (sym e) (tt, refl)) (λ j. absurd j) i
  words_in (suc l) w i =
      let a = in_each w g.symbols (λ a. map (λ (v : List ℕ). a ∷ v) (words g.symbols l)) i in
      let m = in_map (λ (v : List ℕ). a.index ∷ v) w (words g.symbols l) a.here in
      let r = words_in l m.origin m.inside in
      subst (λ (v : List ℕ). Trace g v × (length v ≡ suc l)) (sym m.is) ((a.below, r.0), ap suc r.1)

  pub in_words : (w : List ℕ) → Trace g w → In w (words g.symbols (length w))
  unfolding words Trace
  in_words [] t = inl refl
  in_words (a ∷ w) t =
      each_in (a ∷ w) g.symbols (λ b. map (λ (v : List ℕ). b ∷ v) (words g.symbols (length w))) a t.0
      (map_in (λ (v : List ℕ). a ∷ v) w (words g.symbols (length w)) (in_words w t.1))

  -- ---- series of one length

  abbrev k : ℕ
  k = g.symbols

  -- a series that begins with the fault step f and has l symbols sent
  pub record Struck (l : ℕ) (f : FaultStep) (s : Series) : Type 0 where
    pub rest : List ℕ
    pub trace : Trace g rest
    pub long : length f.sent + length rest ≡ l
    pub is : s ≡ begin f rest

  pub struck_is : (l : ℕ) (f : FaultStep) (s : Series) → In s (struck k l f) → Struck l f s
  struck_is l f s i = go (leb (length f.sent) l) refl i
    where
      go : (b : Bool) → leb (length f.sent) l ≡ b → In s (cond b (map (begin f) (words k (l - length f.sent))) []) → Struck l f s
      go true e j =
          let m = in_map (begin f) s (words k (l - length f.sent)) j in
          let w = words_in (l - length f.sent) m.origin m.inside in
          record {
            rest = m.origin;
            trace = w.0;
            long = ap (λ (x : ℕ). length f.sent + x) w.1 ∙ add-sub_of_le (leb-true (length f.sent) l e);
            is = m.is;
          }
      go false e j = absurd j

  module _ (faults : List FaultStep) where
    -- a valid series with l symbols sent
    pub record Long (l : ℕ) (s : Series) : Type 0 where
      pub valid : Valid g faults s
      pub long : length (sent_trace s) ≡ l

    struck_in : (l : ℕ) (f : FaultStep) (s : Series) → In f faults → In s (struck k l f) → Long l s
    unfolding Trace
    struck_in l f s known i =
        let r = struck_is l f s i in
        subst (Long l) (sym r.is)
        (record { valid = record { before_trace = tt; known = known; after_trace = r.trace }; long = length-append f.sent r.rest ∙ r.long })

    in_struck : (l : ℕ) (f : FaultStep) (w : List ℕ) → Trace g w → length f.sent + length w ≡ l → In (begin f w) (struck k l f)
    in_struck l f w t e =
        rw (le-leb (length f.sent) l (omega arith))
        (map_in (begin f) w (words k (l - length f.sent))
        (let z : length w ≡ l - length f.sent = omega arith in subst (λ (x : ℕ). In w (words k x)) z (in_words w t)))

    plain_long : (l a : ℕ) (s : Series) → a < k → Long l s → Long (suc l) (plain a s)
    unfolding Trace
    plain_long l a s la h = record {
      valid = record { before_trace = (la, h.valid.before_trace); known = h.valid.known; after_trace = h.valid.after_trace };
      long = ap suc h.long;
    }

    faults_in : (l : ℕ) (s : Series) → In s (flat_map (struck k l) faults) → Long l s
    faults_in l s i = (let f = in_flat_map (struck k l) s faults i in struck_in l f.origin s f.inside f.here)

    -- every series of the list is valid and has l symbols sent
    pub series_in : (l : ℕ) (s : Series) → In s (series faults k l) → Long l s
    unfolding series
    series_in zero s i = faults_in zero s i
    series_in (suc l) s i =
        ⊎_elim (faults_in (suc l) s)
        (λ j.
        let a = in_each s k (λ b. map (plain b) (series faults k l)) j in
        let m = in_map (plain a.index) s (series faults k l) a.here in
        subst (Long (suc l)) (sym m.is) (plain_long l a.index m.origin a.below (series_in l m.origin m.inside)))
        (in_either s (flat_map (struck k (suc l)) faults) (each k (λ b. map (plain b) (series faults k l))) i)

    -- and every such series is in the list
    pub in_series : (l : ℕ) (x : List ℕ) (f : FaultStep) (y : List ℕ) → Long l (record { before = x; fault = f; after = y })
        → In (record { before = x; fault = f; after = y }) (series faults k l)
    unfolding series Trace
    in_series zero [] f y h = flat_map_in (struck k zero) f (begin f y) faults h.valid.known
        (in_struck zero f y h.valid.after_trace (sym (length-append f.sent y) ∙ h.long))
    in_series (suc l) [] f y h =
        in_left (begin f y) (flat_map (struck k (suc l)) faults) (each k (λ b. map (plain b) (series faults k l)))
        (flat_map_in (struck k (suc l)) f (begin f y) faults h.valid.known
        (in_struck (suc l) f y h.valid.after_trace (sym (length-append f.sent y) ∙ h.long)))
    in_series zero (a ∷ x) f y h = absurd (let z : suc (length (x ++ (f.sent ++ y))) ≡ 0 = h.long in omega arith)
    in_series (suc l) (a ∷ x) f y h =
        in_right (record { before = a ∷ x; fault = f; after = y }) (flat_map (struck k (suc l)) faults) (each k (λ b. map (plain b) (series faults k l)))
        (each_in (record { before = a ∷ x; fault = f; after = y }) k (λ b. map (plain b) (series faults k l)) a h.valid.before_trace.0
        (map_in (plain a) (record { before = x; fault = f; after = y }) (series faults k l)
        (in_series l x f y (record {
          valid = record { before_trace = h.valid.before_trace.1; known = h.valid.known; after_trace = h.valid.after_trace };
          long = (let z : suc (length (x ++ (f.sent ++ y))) ≡ suc l = h.long in omega arith);
        }))))

-- ---- the order

pub words_rise : (k l : ℕ) → Rising Lower (words k l)
unfolding words
words_rise k zero = (λ y i. absurd i, tt)
words_rise k (suc l) =
    rising_each Lower k (λ a. map (λ (w : List ℕ). a ∷ w) (words k l))
    (λ a _. rising_map Lower Lower (λ (w : List ℕ). a ∷ w) (words k l) (λ v w h. inr (refl, h)) (words_rise k l))
    (λ a b s _ x y i j.
    let u = in_map (λ (w : List ℕ). a ∷ w) x (words k l) i in
    let v = in_map (λ (w : List ℕ). b ∷ w) y (words k l) j in
    subst (λ (z : List ℕ). Lower z y) (sym u.is) (subst (λ (z : List ℕ). Lower (a ∷ u.origin) z) (sym v.is) (inl s)))

-- step by step, without the lengths
abbrev pub Ahead : Series → Series → Type 0
Ahead s t = StepByStep s.before s.fault s.after t.before t.fault t.after

module _ (g : Automaton) (faults : List FaultStep) (rise : Rising StepFirst faults) where
  struck_rise : (l : ℕ) (f : FaultStep) → Rising Ahead (struck (k g) l f)
  struck_rise l f = go (leb (length f.sent) l)
    where
      go : (b : Bool) → Rising Ahead (cond b (map (begin f) (words (k g) (l - length f.sent))) [])
      go true = rising_map Ahead Lower (begin f) (words (k g) (l - length f.sent)) (λ v w h. inr (refl, h)) (words_rise (k g) (l - length f.sent))
      go false = tt

  faults_rise : (l : ℕ) → Rising Ahead (flat_map (struck (k g) l) faults)
  faults_rise l =
      rising_flat_map Ahead StepFirst (struck (k g) l) faults rise (λ f _. struck_rise l f)
      (λ f h u v s i j.
      let a = struck_is g l f u i in
      let b = struck_is g l h v j in
      subst (λ (z : Series). Ahead z v) (sym a.is) (subst (λ (z : Series). Ahead (begin f a.rest) z) (sym b.is) (inl s)))

  pub series_ahead : (l : ℕ) → Rising Ahead (series faults (k g) l)
  unfolding series
  series_ahead zero = faults_rise zero
  series_ahead (suc l) =
      rising_append Ahead (flat_map (struck (k g) (suc l)) faults) (each (k g) (λ a. map (plain a) (series faults (k g) l))) (faults_rise (suc l))
      (rising_each Ahead (k g) (λ a. map (plain a) (series faults (k g) l))
      (λ a _. rising_map Ahead Ahead (plain a) (series faults (k g) l) (λ s t h. inr (refl, h)) (series_ahead l))
      (λ a b s _ x y i j.
      let u = in_map (plain a) x (series faults (k g) l) i in
      let v = in_map (plain b) y (series faults (k g) l) j in
      subst (λ (z : Series). Ahead z y) (sym u.is) (subst (λ (z : Series). Ahead (plain a u.origin) z) (sym v.is) (inl s))))
      (λ x y i j.
      let f = in_flat_map (struck (k g) (suc l)) x faults i in
      let a = struck_is g (suc l) f.origin x f.here in
      let b = in_each y (k g) (λ b. map (plain b) (series faults (k g) l)) j in
      let v = in_map (plain b.index) y (series faults (k g) l) b.here in
      subst (λ (z : Series). Ahead z y) (sym a.is) (subst (λ (z : Series). Ahead (begin f.origin a.rest) z) (sym v.is) tt))

-- the series of all lengths below l rise in the written order
pub series_rise : (g : Automaton) (faults : List FaultStep) → Rising StepFirst faults → (l : ℕ) → Rising Precedes (each l (series faults g.symbols))
series_rise g faults rise l =
    rising_each Precedes l (series faults g.symbols)
    (λ i _. one i (series faults g.symbols i) (λ s h. (series_in g faults i s h).long) (series_ahead g faults rise i))
    (λ i j s _ x y h h'. (let a = (series_in g faults i x h).long in let b = (series_in g faults j y h').long in inl (omega (arith, s, a, b))))
  where
    one : (i : ℕ) (xs : List Series) → ((s : Series) → In s xs → length (sent_trace s) ≡ i) → Rising Ahead xs → Rising Precedes xs
    one i [] long r = tt
    one i (x ∷ xs) long r = (λ y h. inr (long x (inl refl) ∙ sym (long y (inr h)), r.0 y h), one i xs (λ s h. long s (inr h)) r.1)
