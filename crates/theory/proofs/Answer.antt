-- Asking two lists of questions one after the other, and what an answer does to the area lent.
use mathlib.Core.Path.{◌≡◌, refl, sym, ap, ◌∙◌}
use mathlib.Core.Bool.{Bool, true, false, cond}
use mathlib.Core.List.{List, [], ◌∷◌, ◌++◌, append-nil}
use mathlib.Core.Logic.{inl, inr, ⊎_elim}
use Prim.Native.Nat.{ℕ}
use lib.ListN.{length, drop}
use native.Mathlib.Omega.{arith}
use Rattle.theory.specs.Lists.{In}
use Rattle.theory.specs.Answer.{Question, Answer, refused, answered, asks, written}

never : {A : Type 0} {number place : ℕ} {values : A} → refused number place ≡ answered values → ⊥
never e = let z : ◌≡◌ {A = ℕ} 0 1 = cc in omega arith

-- a refusal by the first list is the answer, whatever would be asked after it
pub asks_refused : {A B : Type 0} (qs more : List Question) (values : A) (given : B) {number place : ℕ} → asks qs given ≡ refused number place
    → asks (qs ++ more) values ≡ refused number place
asks_refused [] more values given e = absurd (let z : ◌≡◌ {A = ℕ} 0 1 = cc in omega arith)
asks_refused (q ∷ qs) more values given {number} {place} e = go q.yes e (asks_refused qs more values given)
  where
    go : (b : Bool) → cond b (asks qs given) (refused q.number q.place) ≡ refused number place
        → (asks qs given ≡ refused number place → asks (qs ++ more) values ≡ refused number place)
        → cond b (asks (qs ++ more) values) (refused q.number q.place) ≡ refused number place
    go true h rest = rest h
    go false h rest = (let e : q.number ≡ number = cc in let f : q.place ≡ place = cc in rw (e, f))

-- every question of a list without a no was answered yes
pub asks_yes : {A : Type 0} (q : Question) (qs : List Question) (values : A) {given : A} → asks (q ∷ qs) values ≡ answered given
    → (q.yes ≡ true) × (asks qs values ≡ answered given)
asks_yes q qs values {given} e = go q.yes refl e
  where
    go : (b : Bool) → q.yes ≡ b → cond b (asks qs values) (refused q.number q.place) ≡ answered given
        → (q.yes ≡ true) × (asks qs values ≡ answered given)
    go true p h = (p, h)
    go false p h = absurd (never h)

-- after a first list without a no, the second list decides
pub asks_passed : {A B : Type 0} (qs more : List Question) (values : A) (given : B) → asks qs given ≡ answered given
    → asks (qs ++ more) values ≡ asks more values
asks_passed [] more values given e = refl
asks_passed (q ∷ qs) more values given e = (let y = asks_yes q qs given e in rw y.0 (asks_passed qs more values given y.1))

-- what is answered are the values
pub asks_values : {A : Type 0} (qs : List Question) (values : A) {given : A} → asks qs values ≡ answered given → values ≡ given
asks_values [] values e = cc
asks_values (q ∷ qs) values e = asks_values qs values (asks_yes q qs values e).1

-- whether a list of questions has a no, and which, does not hang on the values
pub asks_other : {A B : Type 0} (qs : List Question) (values : A) (other : B) {given : A} → asks qs values ≡ answered given → asks qs other ≡ answered other
asks_other [] values other e = refl
asks_other (q ∷ qs) values other e = (let y = asks_yes q qs values e in rw y.0 (asks_other qs values other y.1))

pub asks_refuses : {A B : Type 0} (qs : List Question) (values : A) (other : B) {number place : ℕ} → asks qs values ≡ refused number place
    → asks qs other ≡ refused number place
asks_refuses qs values other e = ap (λ (l : List Question). asks l other) (sym (append-nil qs)) ∙ asks_refused qs [] other values e

-- a list of questions without a no has none in its first part and none in its second
pub asks_both : {A : Type 0} (qs more : List Question) (given : A) → asks (qs ++ more) given ≡ answered given
    → (asks qs given ≡ answered given) × (asks more given ≡ answered given)
asks_both [] more given e = (refl, e)
asks_both (q ∷ qs) more given e =
    let y = asks_yes q (qs ++ more) given e in
    let r = asks_both qs more given y.1 in
    (rw y.0 r.0, r.1)

-- ---- the area lent

pub untouched : {A : Type 0} {a : Answer A} {number place : ℕ} (bytes area : List ℕ) → a ≡ refused number place → area ≡ written a bytes area
untouched bytes area e = rw e

pub written_over : {A : Type 0} {a : Answer A} {values : A} (bytes area : List ℕ) → a ≡ answered values
    → bytes ++ drop (length bytes) area ≡ written a bytes area
written_over bytes area e = rw e

-- ---- all yes; some yes and then a no

pub all_answered : {A : Type 0} (qs : List Question) (values : A) → ((q : Question) → In q qs → q.yes ≡ true) → asks qs values ≡ answered values
all_answered [] values all = refl
all_answered (q ∷ qs) values all = rw (all q (inl refl)) (all_answered qs values (λ p i. all p (inr i)))

pub answered_all : {A : Type 0} (qs : List Question) (values : A) → asks qs values ≡ answered values → (q : Question) → In q qs → q.yes ≡ true
answered_all [] values e q i = absurd i
answered_all (p ∷ qs) values e q i =
    let y = asks_yes p qs values e in
    ⊎_elim (λ (h : q ≡ p). rw h y.0) (λ j. answered_all qs values y.1 q j) i

pub no_refused : {A : Type 0} (before : List Question) (q : Question) (after : List Question) (values : A)
    → ((p : Question) → In p before → p.yes ≡ true) → q.yes ≡ false → asks (before ++ (q ∷ after)) values ≡ refused q.number q.place
no_refused before q after values all e = asks_passed before (q ∷ after) values values (all_answered before values all) ∙ rw e
