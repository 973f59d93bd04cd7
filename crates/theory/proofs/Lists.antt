-- The laws of `In`, `any_in`, `find`, `each` and `Rising`.
use mathlib.Core.Path.{◌≡◌, refl, sym, ap, ◌∙◌, subst}
use mathlib.Core.Bool.{Bool, true, false, cond, ◌||◌, true≢false}
use mathlib.Core.List.{List, [], ◌∷◌, ◌++◌, map, flat_map, append_assoc, append-nil}
use mathlib.Core.Logic.{◌⊎◌, inl, inr, ⊎_elim}
use mathlib.Core.Option.{Option, none, some, none-ne-some, some-injective}
use Prim.Native.Nat.{ℕ, zero, suc, ◌+◌, ◌≤◌, ◌<◌}
use native.Mathlib.Nat.{le_refl, le_of_suc-le-suc, not-suc-le-zero, eq-or-lt_of_le}
use native.Mathlib.Omega.{arith}
use lib.ListN.{length, take, drop, length-append}
use lib.Seq.{take-append_seam, drop_at}
use Rattle.theory.specs.Lists.{In, any_in, find, each, Rising}
use Rattle.theory.specs.Below.{any}
use Rattle.theory.proofs.Below.{clash, both_ways, or_cases, or_left, or_right, any_at, any_find, any_same}

module _ {A : Type 0} where
  pub no_some : {x : A} → ◌≡◌ {A = Option A} none (some x) → ⊥
  no_some {x} e = none-ne-some x e

  pub some_same : {x y : A} → ◌≡◌ {A = Option A} (some x) (some y) → x ≡ y
  some_same {x} {y} e = some-injective x y e

  -- ---- what is in a list

  pub in_left : (x : A) (xs ys : List A) → In x xs → In x (xs ++ ys)
  in_left x [] ys i = absurd i
  in_left x (y ∷ xs) ys i = ⊎_elim (λ e. inl e) (λ j. inr (in_left x xs ys j)) i

  pub in_right : (x : A) (xs ys : List A) → In x ys → In x (xs ++ ys)
  in_right x [] ys i = i
  in_right x (y ∷ xs) ys i = inr (in_right x xs ys i)

  pub in_either : (x : A) (xs ys : List A) → In x (xs ++ ys) → In x xs ⊎ In x ys
  in_either x [] ys i = inr i
  in_either x (y ∷ xs) ys i = ⊎_elim (λ e. inl (inl e)) (λ j. ⊎_elim (λ l. inl (inr l)) (λ r. inr r) (in_either x xs ys j)) i

  -- one of the lists of 0, 1, .. n - 1 holds x
  pub record InEach (n : ℕ) (f : ℕ → List A) (x : A) : Type 0 where
    pub index : ℕ
    pub below : index < n
    pub here : In x (f index)

  pub each_same : (n : ℕ) (f g : ℕ → List A) → ((i : ℕ) → i < n → f i ≡ g i) → each n f ≡ each n g
  unfolding each
  each_same zero f g h = refl
  each_same (suc n) f g h = rw (each_same n f g (λ i l. h i (omega (arith, l))), h n (le_refl (suc n)))

  -- list i stands behind those of 0, 1, .. i - 1
  pub each_at : (i n : ℕ) (f : ℕ → List A) → i < n → (rest : List A) × (each n f ≡ each i f ++ (f i ++ rest))
  unfolding each
  each_at i zero f l = absurd (not-suc-le-zero l)
  each_at i (suc n) f l =
      ⊎_elim
      (λ (q : i ≡ n). ([], subst (λ (j : ℕ). each n f ++ f n ≡ each j f ++ (f j ++ [])) (sym q) (ap (λ (r : List A). each n f ++ r) (sym (append-nil (f n))))))
      (λ s. (let r = each_at i n f s in (
        r.0 ++ f n,
        ap (λ (xs : List A). xs ++ f n) r.1
            ∙ append_assoc (each i f) (f i ++ r.0) (f n)
            ∙ ap (λ (xs : List A). each i f ++ xs) (append_assoc (f i) r.0 (f n)),
      )))
      (eq-or-lt_of_le (le_of_suc-le-suc l))

  -- and is found there, whatever stands before and behind them all
  pub each_cut : (i n : ℕ) (f : ℕ → List A) → i < n → (front behind : List A) (at : ℕ) → length front + length (each i f) ≡ at
      → take (length (f i)) (drop at (front ++ (each n f ++ behind))) ≡ f i
  each_cut i n f l front behind at e =
      let r = each_at i n f l in
      let long : length (front ++ each i f) ≡ at = length-append front (each i f) ∙ e in
      ap (λ (xs : List A). take (length (f i)) (drop at (front ++ (xs ++ behind)))) r.1
      ∙ ap (λ (xs : List A). take (length (f i)) (drop at (front ++ xs)))
      (append_assoc (each i f) (f i ++ r.0) behind ∙ ap (λ (xs : List A). each i f ++ xs) (append_assoc (f i) r.0 behind))
      ∙ ap (λ (xs : List A). take (length (f i)) (drop at xs)) (sym (append_assoc front (each i f) (f i ++ (r.0 ++ behind))))
      ∙ ap (take (length (f i))) (drop_at (front ++ each i f) (f i ++ (r.0 ++ behind)) at long)
      ∙ take-append_seam (f i) (r.0 ++ behind)

  pub each_in : (x : A) (n : ℕ) (f : ℕ → List A) (i : ℕ) → i < n → In x (f i) → In x (each n f)
  unfolding each
  each_in x zero f i l h = absurd (not-suc-le-zero l)
  each_in x (suc n) f i l h =
      ⊎_elim (λ e. in_right x (each n f) (f n) (subst (λ (j : ℕ). In x (f j)) e h)) (λ s. in_left x (each n f) (f n) (each_in x n f i s h))
      (eq-or-lt_of_le (le_of_suc-le-suc l))

  pub in_each : (x : A) (n : ℕ) (f : ℕ → List A) → In x (each n f) → InEach n f x
  unfolding each
  in_each x zero f h = absurd h
  in_each x (suc n) f h =
      ⊎_elim (λ i. (let r = in_each x n f i in record { index = r.index; below = omega (arith, r.below); here = r.here }))
      (λ i. record { index = n; below = le_refl (suc n); here = i }) (in_either x (each n f) (f n) h)

  -- ---- whether some element passes, and the first that does

  module _ (f : A → Bool) where
    pub any_in_at : (xs : List A) {x : A} → In x xs → f x ≡ true → any_in f xs ≡ true
    unfolding any_in
    any_in_at [] i e = absurd i
    any_in_at (y ∷ xs) {x} i e =
        ⊎_elim (λ (q : x ≡ y). or_left (f y) (any_in f xs) (ap f (sym q) ∙ e)) (λ j. or_right (f y) (any_in f xs) (any_in_at xs j e)) i

    pub any_in_find : (xs : List A) → any_in f xs ≡ true → (x : A) × In x xs × (f x ≡ true)
    unfolding any_in
    any_in_find [] e = absurd (true≢false (sym e))
    any_in_find (y ∷ xs) e =
        ⊎_elim (λ h. (y, inl refl, h)) (λ h. (let r = any_in_find xs h in (r.0, inr r.1, r.2))) (or_cases (f y) (any_in f xs) e)

    -- one of the lists of 0, 1, .. n - 1 has such an element
    pub any_in_each : (n : ℕ) (h : ℕ → List A) → any_in f (each n h) ≡ any n (λ i. any_in f (h i))
    any_in_each n h =
        both_ways
        (λ t.
        let r = any_in_find (each n h) t in
        let w = in_each r.0 n h r.1 in
        any_at n (λ i. any_in f (h i)) w.index w.below (any_in_at (h w.index) w.here r.2))
        (λ t.
        let b = any_find n (λ i. any_in f (h i)) t in
        let r = any_in_find (h b.0) b.2 in
        any_in_at (each n h) (each_in r.0 n h b.0 b.1 r.1) r.2)

    -- the same where each list has one element
    pub any_in_ones : (n : ℕ) (h : ℕ → A) → any_in f (each n (λ i. h i ∷ [])) ≡ any n (λ i. f (h i))
    unfolding any_in
    any_in_ones n h = any_in_each n (λ i. h i ∷ []) ∙ any_same n (λ i. f (h i) || false) (λ i. f (h i)) (λ i l. or-false (f (h i)))
      where
        or-false : (b : Bool) → (b || false) ≡ b
        or-false true = refl
        or-false false = refl

    pub find_none : (xs : List A) → ((x : A) → In x xs → f x ≡ false) → find f xs ≡ none
    unfolding find
    find_none [] h = refl
    find_none (x ∷ xs) h = rw (h x (inl refl)) (find_none xs (λ y i. h y (inr i)))

    pub none_passes : (xs : List A) → find f xs ≡ none → (x : A) → In x xs → f x ≡ false
    unfolding find
    none_passes [] e x i = absurd i
    none_passes (y ∷ xs) e x i = go (f y) refl e (none_passes xs)
      where
        go : (b : Bool) → f y ≡ b → cond b (some y) (find f xs) ≡ none → (find f xs ≡ none → (x : A) → In x xs → f x ≡ false) → f x ≡ false
        go true p h rest = absurd (no_some (sym h))
        go false p h rest = ⊎_elim (λ (q : x ≡ y). ap f q ∙ p) (λ j. rest h x j) i

    pub find_same : (h : A → Bool) (xs : List A) → ((x : A) → In x xs → f x ≡ h x) → find f xs ≡ find h xs
    unfolding find
    find_same h [] e = refl
    find_same h (x ∷ xs) e = rw (e x (inl refl), find_same h xs (λ y i. e y (inr i)))

    pub find_in : (xs : List A) {x : A} → find f xs ≡ some x → In x xs × (f x ≡ true)
    unfolding find
    find_in [] e = absurd (no_some e)
    find_in (y ∷ xs) {x} e = go (f y) refl e (find_in xs)
      where
        go : (b : Bool) → f y ≡ b → cond b (some y) (find f xs) ≡ some x → (find f xs ≡ some x → In x xs × (f x ≡ true)) → In x (y ∷ xs) × (f x ≡ true)
        go true p h rest = (let q = some_same h in (inl (sym q), ap f (sym q) ∙ p))
        go false p h rest = (let r = rest h in (inr r.0, r.1))

    pub find_later : (xs ys : List A) → find f xs ≡ none → find f (xs ++ ys) ≡ find f ys
    unfolding find
    find_later [] ys e = refl
    find_later (x ∷ xs) ys e = (let p = none_passes (x ∷ xs) e x (inl refl) in rw p (find_later xs ys (rw p at e)))

    pub find_here : (xs ys : List A) {x : A} → find f xs ≡ some x → find f (xs ++ ys) ≡ some x
    unfolding find
    find_here [] ys e = absurd (no_some e)
    find_here (y ∷ xs) ys {x} e = go (f y) e (find_here xs ys)
      where
        go : (b : Bool) → cond b (some y) (find f xs) ≡ some x → (find f xs ≡ some x → find f (xs ++ ys) ≡ some x)
            → cond b (some y) (find f (xs ++ ys)) ≡ some x
        go true h rest = h
        go false h rest = rest h

    pub find_each_none : (n : ℕ) (h : ℕ → List A) → ((j : ℕ) → j < n → find f (h j) ≡ none) → find f (each n h) ≡ none
    unfolding each find
    find_each_none zero h none-at = refl
    find_each_none (suc n) h none-at = find_later (each n h) (h n) (find_each_none n h (λ j s. none-at j (omega (arith, s)))) ∙ none-at n (le_refl (suc n))

    -- the first list that has one decides
    pub find_each : (n : ℕ) (h : ℕ → List A) (i : ℕ) {x : A} → i < n → ((j : ℕ) → j < i → find f (h j) ≡ none) → find f (h i) ≡ some x
        → find f (each n h) ≡ some x
    unfolding each
    find_each zero h i l before e = absurd (not-suc-le-zero l)
    find_each (suc n) h i {x} l before e =
        ⊎_elim
        (λ (q : i ≡ n). find_later (each n h) (h n) (find_each_none n h (λ j s. before j (omega arith))) ∙ subst (λ (j : ℕ). find f (h j) ≡ some x) q e)
        (λ s. find_here (each n h) (h n) (find_each n h i s before e))
        (eq-or-lt_of_le (le_of_suc-le-suc l))

    -- more lists behind do not change what is found
    pub find_each_more : (m n : ℕ) (h : ℕ → List A) {x : A} → m ≤ n → find f (each m h) ≡ some x → find f (each n h) ≡ some x
    unfolding each
    find_each_more m zero h {x} l e = (let z : m ≡ 0 = omega arith in subst (λ (j : ℕ). find f (each j h) ≡ some x) z e)
    find_each_more m (suc n) h {x} l e =
        ⊎_elim
        (λ (q : m ≡ suc n). subst (λ (j : ℕ). find f (each j h) ≡ some x) q e)
        (λ s. find_here (each n h) (h n) (find_each_more m n h (le_of_suc-le-suc s) e))
        (eq-or-lt_of_le l)

    -- ---- lists that rise

    -- in a rising list, what passes is the first that does or stands after it
    pub find_first : (R : A → A → Type 0) (xs : List A) {x : A} → Rising R xs → find f xs ≡ some x → (y : A) → In y xs → f y ≡ true → (y ≡ x) ⊎ R x y
    unfolding find
    find_first R [] r e y i t = absurd i
    find_first R (z ∷ xs) {x} r e y i t = go (f z) refl e (λ h j. find_first R xs r.1 h y j t)
      where
        go : (b : Bool) → f z ≡ b → cond b (some z) (find f xs) ≡ some x → (find f xs ≡ some x → In y xs → (y ≡ x) ⊎ R x y) → (y ≡ x) ⊎ R x y
        go true p h rest = (let q = some_same h in ⊎_elim (λ (s : y ≡ z). inl (s ∙ q)) (λ j. inr (subst (λ (u : A). R u y) q (r.0 y j))) i)
        go false p h rest = ⊎_elim (λ (s : y ≡ z). absurd (clash t (ap f s ∙ p))) (rest h) i

  module _ (R : A → A → Type 0) where
    pub rising_append : (xs ys : List A) → Rising R xs → Rising R ys → ((x y : A) → In x xs → In y ys → R x y) → Rising R (xs ++ ys)
    rising_append [] ys r s h = s
    rising_append (x ∷ xs) ys r s h =
        (λ y i. ⊎_elim (λ j. r.0 y j) (λ j. h x y (inl refl) j) (in_either y xs ys i), rising_append xs ys r.1 s (λ u v i j. h u v (inr i) j))

    pub rising_each : (n : ℕ) (f : ℕ → List A) → ((i : ℕ) → i < n → Rising R (f i)) → ((i j : ℕ) → i < j → j < n → (x y : A) → In x (f i) → In y (f j) → R x y)
        → Rising R (each n f)
    unfolding each
    rising_each zero f one two = tt
    rising_each (suc n) f one two =
        rising_append (each n f) (f n) (rising_each n f (λ i l. one i (omega (arith, l))) (λ i j l s. two i j l (omega (arith, s)))) (one n (le_refl (suc n)))
        (λ x y i j. (let r = in_each x n f i in two r.index n r.below (le_refl (suc n)) x y r.here j))

module _ {A B : Type 0} where
  pub record InImage (h : A → B) (xs : List A) (y : B) : Type 0 where
    pub origin : A
    pub inside : In origin xs
    pub is : y ≡ h origin

  pub map_in : (h : A → B) (x : A) (xs : List A) → In x xs → In (h x) (map h xs)
  map_in h x [] i = absurd i
  map_in h x (y ∷ xs) i = ⊎_elim (λ e. inl (ap h e)) (λ j. inr (map_in h x xs j)) i

  pub in_map : (h : A → B) (y : B) (xs : List A) → In y (map h xs) → InImage h xs y
  in_map h y [] i = absurd i
  in_map h y (x ∷ xs) i =
      ⊎_elim (λ e. record { origin = x; inside = inl refl; is = e })
      (λ j. (let r = in_map h y xs j in record { origin = r.origin; inside = inr r.inside; is = r.is })) i

  pub record InSome (h : A → List B) (xs : List A) (y : B) : Type 0 where
    pub origin : A
    pub inside : In origin xs
    pub here : In y (h origin)

  pub flat_map_in : (h : A → List B) (x : A) (y : B) (xs : List A) → In x xs → In y (h x) → In y (flat_map h xs)
  unfolding flat_map
  flat_map_in h x y [] i j = absurd i
  flat_map_in h x y (z ∷ xs) i j =
      ⊎_elim (λ (e : x ≡ z). in_left y (h z) (flat_map h xs) (subst (λ (u : A). In y (h u)) e j))
      (λ s. in_right y (h z) (flat_map h xs) (flat_map_in h x y xs s j)) i

  pub in_flat_map : (h : A → List B) (y : B) (xs : List A) → In y (flat_map h xs) → InSome h xs y
  unfolding flat_map
  in_flat_map h y [] i = absurd i
  in_flat_map h y (x ∷ xs) i =
      ⊎_elim (λ j. record { origin = x; inside = inl refl; here = j })
      (λ j. (let r = in_flat_map h y xs j in record { origin = r.origin; inside = inr r.inside; here = r.here }))
      (in_either y (h x) (flat_map h xs) i)

  pub find_map : (f : B → Bool) (h : A → B) (xs : List A) {x : A} → find (λ y. f (h y)) xs ≡ some x → find f (map h xs) ≡ some (h x)
  unfolding find
  find_map f h [] e = absurd (no_some e)
  find_map f h (y ∷ xs) {x} e = go (f (h y)) e (find_map f h xs)
    where
      go : (b : Bool) → cond b (some y) (find (λ z. f (h z)) xs) ≡ some x → (find (λ z. f (h z)) xs ≡ some x → find f (map h xs) ≡ some (h x))
          → cond b (some (h y)) (find f (map h xs)) ≡ some (h x)
      go true q rest = ap (λ (z : A). some (h z)) (some_same q)
      go false q rest = rest q

  pub find_map_none : (f : B → Bool) (h : A → B) (xs : List A) → find (λ y. f (h y)) xs ≡ none → find f (map h xs) ≡ none
  find_map_none f h xs e = find_none f (map h xs) (λ y i. (let r = in_map h y xs i in ap f r.is ∙ none_passes (λ z. f (h z)) xs e r.origin r.inside))

  -- a test t of the elements that tells whose list has one: the first that passes t decides
  pub find_flat_map : (f : B → Bool) (t : A → Bool) (h : A → List B) (xs : List A) {x : A} {y : B}
      → ((z : A) → In z xs → t z ≡ false → find f (h z) ≡ none) → find t xs ≡ some x → find f (h x) ≡ some y → find f (flat_map h xs) ≡ some y
  unfolding find flat_map
  find_flat_map f t h [] at e here = absurd (no_some e)
  find_flat_map f t h (z ∷ xs) {x} {y} at e here = go (t z) refl e (λ q. find_flat_map f t h xs (λ u i p. at u (inr i) p) q here)
    where
      go : (b : Bool) → t z ≡ b → cond b (some z) (find t xs) ≡ some x → (find t xs ≡ some x → find f (flat_map h xs) ≡ some y)
          → find f (h z ++ flat_map h xs) ≡ some y
      go true p q rest = find_here f (h z) (flat_map h xs) (subst (λ (u : A). find f (h u) ≡ some y) (sym (some_same q)) here)
      go false p q rest = find_later f (h z) (flat_map h xs) (at z (inl refl) p) ∙ rest q

  pub find_flat_map_none : (f : B → Bool) (h : A → List B) (xs : List A) → ((z : A) → In z xs → find f (h z) ≡ none) → find f (flat_map h xs) ≡ none
  find_flat_map_none f h xs at =
      find_none f (flat_map h xs) (λ y i. (let r = in_flat_map h y xs i in none_passes f (h r.origin) (at r.origin r.inside) y r.here))

  pub rising_map : (R : B → B → Type 0) (S : A → A → Type 0) (h : A → B) (xs : List A) → ((x y : A) → S x y → R (h x) (h y)) → Rising S xs → Rising R (map h xs)
  rising_map R S h [] over r = tt
  rising_map R S h (x ∷ xs) over r = (
    λ y i. (let o = in_map h y xs i in subst (λ (u : B). R (h x) u) (sym o.is) (over x o.origin (r.0 o.origin o.inside))),
    rising_map R S h xs over r.1,
  )

  pub rising_flat_map : (R : B → B → Type 0) (S : A → A → Type 0) (h : A → List B) (xs : List A) → Rising S xs
      → ((x : A) → In x xs → Rising R (h x)) → ((x y : A) (u v : B) → S x y → In u (h x) → In v (h y) → R u v) → Rising R (flat_map h xs)
  unfolding flat_map
  rising_flat_map R S h [] s one two = tt
  rising_flat_map R S h (x ∷ xs) s one two =
      rising_append R (h x) (flat_map h xs) (one x (inl refl)) (rising_flat_map R S h xs s.1 (λ y i. one y (inr i)) two)
      (λ u v i j. (let r = in_flat_map h v xs j in two x r.origin u v (s.0 r.origin r.inside) i r.here))
