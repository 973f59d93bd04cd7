-- The laws of `any`, `every`, `count` and `first`.
use mathlib.Core.Path.{◌≡◌, refl, sym, ap, ◌∙◌, subst}
use mathlib.Core.Bool.{Bool, true, false, not, cond, ◌&&◌, ◌||◌, true≢false, or_comm}
use mathlib.Core.Logic.{◌⊎◌, inl, inr, ⊎_elim}
use Prim.Native.Nat.{ℕ, zero, suc, ◌+◌, ◌-◌, ◌≤◌, ◌<◌, suc-le-suc, zero-le}
use native.Mathlib.Nat.{le_refl, le_of_suc-le-suc, not-suc-le-zero, eq-or-lt_of_le, le_of_lt}
use native.Mathlib.Numerals.{add-one}
use native.Mathlib.Omega.{arith}
use lib.Dec.{eqb, ltb}
use borrow.Author.Tests.{ltb-true, ltb-false, lt-ltb, eqb-true, eqb-false, not-true}
use Rattle.theory.specs.Below.{any, every, count, first}

-- ---- Booleans

pub clash : {b : Bool} → b ≡ true → b ≡ false → ⊥
clash p q = true≢false (sym p ∙ q)

pub not_clash : {b : Bool} → (b ≡ true → ⊥) → b ≡ false
not_clash {b = true} n = absurd (n refl)
not_clash {b = false} n = refl

pub is_true : {b : Bool} → (b ≡ false → ⊥) → b ≡ true
is_true {b = true} n = refl
is_true {b = false} n = absurd (n refl)

-- two tests that are true together are equal
pub both_ways : {a b : Bool} → (a ≡ true → b ≡ true) → (b ≡ true → a ≡ true) → a ≡ b
both_ways {a = true} f g = sym (f refl)
both_ways {a = false} {b = true} f g = g refl
both_ways {a = false} {b = false} f g = refl

pub or_cases : (a b : Bool) → (a || b) ≡ true → (a ≡ true) ⊎ (b ≡ true)
or_cases true b e = inl refl
or_cases false b e = inr e

pub or_left : (a b : Bool) → a ≡ true → (a || b) ≡ true
or_left true b e = refl
or_left false b e = absurd (true≢false (sym e))

pub or_right : (a b : Bool) → b ≡ true → (a || b) ≡ true
or_right true b e = refl
or_right false b e = e

pub and_left : (a b : Bool) → (a && b) ≡ true → a ≡ true
and_left true b e = refl
and_left false b e = e

pub and_right : (a b : Bool) → (a && b) ≡ true → b ≡ true
and_right true b e = e
and_right false b e = absurd (true≢false (sym e))

pub and_both : (a b : Bool) → a ≡ true → b ≡ true → (a && b) ≡ true
and_both true b p q = q
and_both false b p q = p

pub lt_or_le : (i n : ℕ) → (i < n) ⊎ (n ≤ i)
lt_or_le i n = go (ltb i n) refl
  where
    go : (b : Bool) → ltb i n ≡ b → (i < n) ⊎ (n ≤ i)
    go true e = inl (ltb-true i n e)
    go false e = inr (ltb-false i n e)

pub same_or_not : (x y : ℕ) → (x ≡ y) ⊎ (x ≡ y → ⊥)
same_or_not x y = go (eqb x y) refl
  where
    go : (b : Bool) → eqb x y ≡ b → (x ≡ y) ⊎ (x ≡ y → ⊥)
    go true e = inl (eqb-true x y e)
    go false e = inr (eqb-false x y e)

-- ---- any

pub any_at : (n : ℕ) (f : ℕ → Bool) (i : ℕ) → i < n → f i ≡ true → any n f ≡ true
unfolding any
any_at zero f i l e = absurd (not-suc-le-zero l)
any_at (suc n) f i l e =
    ⊎_elim (λ q. or_left (f n) (any n f) (subst (λ (x : ℕ). f x ≡ true) q e)) (λ s. or_right (f n) (any n f) (any_at n f i s e))
    (eq-or-lt_of_le (le_of_suc-le-suc l))

pub any_find : (n : ℕ) (f : ℕ → Bool) → any n f ≡ true → (i : ℕ) × (i < n) × (f i ≡ true)
unfolding any
any_find zero f e = absurd (true≢false (sym e))
any_find (suc n) f e = go (or_cases (f n) (any n f) e) (any_find n f)
  where
    go : (f n ≡ true) ⊎ (any n f ≡ true) → (any n f ≡ true → (i : ℕ) × (i < n) × (f i ≡ true)) → (i : ℕ) × (i < suc n) × (f i ≡ true)
    go (inl here) below = (n, le_refl (suc n), here)
    go (inr there) below = let b = below there in (b.0, omega (arith, b.1), b.2)

pub any_same : (n : ℕ) (f g : ℕ → Bool) → ((i : ℕ) → i < n → f i ≡ g i) → any n f ≡ any n g
unfolding any
any_same zero f g h = refl
any_same (suc n) f g h = rw (h n (le_refl (suc n)), any_same n f g (λ i l. h i (omega (arith, l))))

pub any_more : (n : ℕ) (f : ℕ → Bool) → any (n + 1) f ≡ (any n f || f n)
unfolding any
any_more n f = rw (add-one n) (or_comm (f n) (any n f))

-- numbers that fail the test make no difference
pub any_short : (m n : ℕ) (f : ℕ → Bool) → m ≤ n → ((i : ℕ) → m ≤ i → i < n → f i ≡ false) → any n f ≡ any m f
any_short m n f l h =
    both_ways
    (λ t. (let b = any_find n f t in ⊎_elim (λ s. any_at m f b.0 s b.2) (λ g. absurd (clash b.2 (h b.0 g b.1))) (lt_or_le b.0 m)))
    (λ t. (let b = any_find m f t in any_at n f b.0 (omega (arith, b.1)) b.2))

-- ---- every

pub every_at : (n : ℕ) (f : ℕ → Bool) → every n f ≡ true → (i : ℕ) → i < n → f i ≡ true
every_at n f e i l = is_true (λ h. clash (any_at n (λ j. not (f j)) i l (ap not h)) (not-true (any n (λ j. not (f j))) e))

pub every_all : (n : ℕ) (f : ℕ → Bool) → ((i : ℕ) → i < n → f i ≡ true) → every n f ≡ true
every_all n f h = ap not (not_clash (λ t. (let b = any_find n (λ j. not (f j)) t in clash (h b.0 b.1) (not-true (f b.0) b.2))))

pub every_same : (n : ℕ) (f g : ℕ → Bool) → ((i : ℕ) → i < n → f i ≡ g i) → every n f ≡ every n g
every_same n f g h = ap not (any_same n (λ j. not (f j)) (λ j. not (g j)) (λ i l. ap not (h i l)))

-- ---- count

pub count_le : (n : ℕ) (f : ℕ → Bool) → count n f ≤ n
unfolding count
count_le zero f = le_refl 0
count_le (suc n) f = go (f n) (count_le n f)
  where
    go : (b : Bool) → count n f ≤ n → cond b (suc (count n f)) (count n f) ≤ suc n
    go true h = omega arith
    go false h = omega arith

pub count_same : (n : ℕ) (f g : ℕ → Bool) → ((i : ℕ) → i < n → f i ≡ g i) → count n f ≡ count n g
unfolding count
count_same zero f g h = refl
count_same (suc n) f g h = rw (h n (le_refl (suc n)), count_same n f g (λ i l. h i (omega (arith, l))))

-- a wider test has no smaller count, and a greater one where it passes something new
pub count_mono : (n : ℕ) (f g : ℕ → Bool) → ((i : ℕ) → i < n → f i ≡ true → g i ≡ true) → count n f ≤ count n g
unfolding count
count_mono zero f g h = le_refl 0
count_mono (suc n) f g h = go (f n) (g n) (h n (le_refl (suc n))) (count_mono n f g (λ i l. h i (omega (arith, l))))
  where
    go : (a b : Bool) → (a ≡ true → b ≡ true) → count n f ≤ count n g → cond a (suc (count n f)) (count n f) ≤ cond b (suc (count n g)) (count n g)
    go true true i l = omega arith
    go true false i l = absurd (clash (i refl) refl)
    go false true i l = omega arith
    go false false i l = l

pub count_more : (n : ℕ) (f g : ℕ → Bool) → ((i : ℕ) → i < n → f i ≡ true → g i ≡ true) → (x : ℕ) → x < n → f x ≡ false → g x ≡ true → count n f < count n g
unfolding count
count_more zero f g h x l e t = absurd (not-suc-le-zero l)
count_more (suc n) f g h x l e t =
    ⊎_elim
    (λ q. rw (subst (λ (y : ℕ). f y ≡ false) q e, subst (λ (y : ℕ). g y ≡ true) q t) (suc-le-suc (count_mono n f g (λ i s. h i (omega (arith, s))))))
    (λ s. there (f n) (g n) (h n (le_refl (suc n))) (count_more n f g (λ i r. h i (omega (arith, r))) x s e t))
    (eq-or-lt_of_le (le_of_suc-le-suc l))
  where
    there : (a b : Bool) → (a ≡ true → b ≡ true) → count n f < count n g → cond a (suc (count n f)) (count n f) < cond b (suc (count n g)) (count n g)
    there true true i m = omega arith
    there true false i m = absurd (clash (i refl) refl)
    there false true i m = omega arith
    there false false i m = m

-- numbers that fail the test do not count
pub count_short : (m n : ℕ) (f : ℕ → Bool) → m ≤ n → ((i : ℕ) → m ≤ i → i < n → f i ≡ false) → count n f ≡ count m f
unfolding count
count_short m zero f l h = (let e : 0 ≡ m = omega arith in ap (λ (x : ℕ). count x f) e)
count_short m (suc n) f l h =
    ⊎_elim
    (λ (e : m ≡ suc n). ap (λ (x : ℕ). count x f) (sym e))
    (λ s. rw (h n (le_of_suc-le-suc s) (le_refl (suc n))) (count_short m n f (le_of_suc-le-suc s) (λ i a b. h i a (omega (arith, b)))))
    (eq-or-lt_of_le l)

pub count_any : (n : ℕ) (f : ℕ → Bool) → ltb 0 (count n f) ≡ any n f
unfolding count any
count_any zero f = refl
count_any (suc n) f = go (f n) (count_any n f)
  where
    go : (b : Bool) → ltb 0 (count n f) ≡ any n f → ltb 0 (cond b (suc (count n f)) (count n f)) ≡ (b || any n f)
    go true e = lt-ltb 0 (suc (count n f)) (omega arith)
    go false e = e

-- the test f, taken apart at 0: g is f one further on
pub count_from_lem : (n : ℕ) (f g : ℕ → Bool) → ((i : ℕ) → f (suc i) ≡ g i) → count (suc n) f ≡ cond (f 0) (suc (count n g)) (count n g)
unfolding count
count_from_lem zero f g h = refl
count_from_lem (suc n) f g h = rw (h n, count_from_lem n f g h) (swap (g n) (f 0) (count n g))
  where
    swap : (a b : Bool) (t : ℕ) → cond a (suc (cond b (suc t) t)) (cond b (suc t) t) ≡ cond b (suc (cond a (suc t) t)) (cond a (suc t) t)
    swap true true t = refl
    swap true false t = refl
    swap false true t = refl
    swap false false t = refl

-- the numbers from m on, counted from 0
pub count_joined : (m n : ℕ) (f g : ℕ → Bool) → ((i : ℕ) → f (m + i) ≡ g i) → count (m + n) f ≡ count m f + count n g
unfolding count
count_joined m zero f g h = (let e : m + 0 ≡ m = omega arith in rw e (let z : count m f ≡ count m f + 0 = omega arith in z))
count_joined m (suc n) f g h = (let e : m + suc n ≡ suc (m + n) = omega arith in rw e (rw (h n, count_joined m n f g h) (go (g n))))
  where
    go : (b : Bool) → cond b (suc (count m f + count n g)) (count m f + count n g) ≡ count m f + cond b (suc (count n g)) (count n g)
    go true = omega arith
    go false = refl

-- ---- first

-- a scan that passed over every number from a up to i, and stopped at the end or at a number that passes, has found the first
pub first_is : (f : ℕ → Bool) (c a i : ℕ) → a ≤ i → i ≤ a + c → ((j : ℕ) → a ≤ j → j < i → f j ≡ false) → (i < a + c → f i ≡ true) → first f a c ≡ i
unfolding first
first_is f zero a i l u passed here = omega arith
first_is f (suc c) a i l u passed here =
    ⊎_elim
    (λ e. subst (λ (x : ℕ). cond (f x) x (first f (suc x) c) ≡ i) (sym e) (rw (here (omega (arith, e)))))
    (λ s. rw (passed a (le_refl a) s) (first_is f c (suc a) i s (omega arith) (λ j g h. passed j (le_of_lt g) h) (λ g. here (omega arith))))
    (eq-or-lt_of_le l)

pub first_le : (f : ℕ → Bool) (a c : ℕ) → first f a c ≤ a + c
unfolding first
first_le f a zero = omega arith
first_le f a (suc c) = go (f a) (first_le f (suc a) c)
  where
    go : (b : Bool) → first f (suc a) c ≤ suc a + c → cond b a (first f (suc a) c) ≤ a + suc c
    go true h = omega arith
    go false h = omega arith

pub first_ge : (f : ℕ → Bool) (a c : ℕ) → a ≤ first f a c
unfolding first
first_ge f a zero = le_refl a
first_ge f a (suc c) = go (f a) (first_ge f (suc a) c)
  where
    go : (b : Bool) → suc a ≤ first f (suc a) c → a ≤ cond b a (first f (suc a) c)
    go true h = le_refl a
    go false h = omega arith

-- every number before the first fails the test
pub first_below : (f : ℕ → Bool) (a c j : ℕ) → a ≤ j → j < first f a c → f j ≡ false
unfolding first
first_below f a zero j l h = absurd (omega arith)
first_below f a (suc c) j l h = go (f a) refl h (first_below f (suc a) c j)
  where
    go : (b : Bool) → f a ≡ b → j < cond b a (first f (suc a) c) → (suc a ≤ j → j < first f (suc a) c → f j ≡ false) → f j ≡ false
    go true e g next = absurd (omega arith)
    go false e g next = ⊎_elim (λ s. subst (λ (x : ℕ). f x ≡ false) s e) (λ s. next s g) (eq-or-lt_of_le l)

-- the first number, where it is not the end, passes
pub first_here : (f : ℕ → Bool) (a c : ℕ) → first f a c < a + c → f (first f a c) ≡ true
unfolding first
first_here f a zero h = absurd (omega arith)
first_here f a (suc c) h = go (f a) refl h (first_here f (suc a) c)
  where
    go : (b : Bool) → f a ≡ b → cond b a (first f (suc a) c) < a + suc c → (first f (suc a) c < suc a + c → f (first f (suc a) c) ≡ true)
        → f (cond b a (first f (suc a) c)) ≡ true
    go true e g next = e
    go false e g next = next (omega arith)

pub first_none : (f : ℕ → Bool) (a c j : ℕ) → first f a c ≡ a + c → a ≤ j → j < a + c → f j ≡ false
first_none f a c j e l h = first_below f a c j l (omega arith)

-- tests that agree on the numbers have one first
pub first_same : (f g : ℕ → Bool) (a c : ℕ) → ((i : ℕ) → a ≤ i → i < a + c → f i ≡ g i) → first f a c ≡ first g a c
unfolding first
first_same f g a zero h = refl
first_same f g a (suc c) h = rw (h a (le_refl a) (omega arith), first_same f g (suc a) c (λ i l u. h i (omega (arith, l)) (omega (arith, u))))

-- g is the test f one further on
pub first_from : (f g : ℕ → Bool) → ((i : ℕ) → f (suc i) ≡ g i) → (a c : ℕ) → first f (suc a) c ≡ suc (first g a c)
unfolding first
first_from f g h a zero = refl
first_from f g h a (suc c) = rw (h a, first_from f g h (suc a) c) (go (g a))
  where
    go : (b : Bool) → cond b (suc a) (suc (first g (suc a) c)) ≡ suc (cond b a (first g (suc a) c))
    go true = refl
    go false = refl

-- a scan from 0 that passed all c numbers
pub first_whole : (f : ℕ → Bool) (c : ℕ) {r : ℕ} → r ≡ first f 0 c → c ≤ r → first f 0 c ≡ c
first_whole f c e l = omega (arith, first_le f 0 c)

-- of m + n numbers: one of the first m, or else one of the others, counted from 0
pub first_lower : (m n : ℕ) (f : ℕ → Bool) → first f 0 m < m → first f 0 (m + n) ≡ first f 0 m
first_lower m n f l = first_is f (m + n) 0 (first f 0 m) zero-le (omega (arith, l)) (λ j a b. first_below f 0 m j a b)
    (λ _. first_here f 0 m (omega (arith, l)))

pub first_upper : (m n : ℕ) (f g : ℕ → Bool) → ((i : ℕ) → f (m + i) ≡ g i) → ((i : ℕ) → i < m → f i ≡ false) → first f 0 (m + n) ≡ m + first g 0 n
first_upper m n f g h none =
    first_is f (m + n) 0 (m + first g 0 n) zero-le (omega (arith, first_le g 0 n)) below (λ l. h (first g 0 n) ∙ first_here g 0 n (omega (arith, l)))
  where
    below : (j : ℕ) → 0 ≤ j → j < m + first g 0 n → f j ≡ false
    below j a b =
        ⊎_elim
        (none j)
        (λ (l : m ≤ j).
        let e : j ≡ m + (j - m) = omega (arith, l) in
        ap f e ∙ h (j - m) ∙ first_below g 0 n (j - m) zero-le (omega (arith, l, b)))
        (lt_or_le j m)
