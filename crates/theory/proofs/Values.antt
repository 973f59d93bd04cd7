-- Filling a list with values, from the front.
use mathlib.Core.Path.{◌≡◌, refl, sym, ap, ◌∙◌}
use mathlib.Core.List.{List, [], ◌∷◌, ◌++◌, append_assoc, append-nil}
use mathlib.Core.Logic.{⊎_elim}
use Prim.Native.Nat.{ℕ, zero, suc, ◌+◌, ◌≤◌, ◌<◌}
use native.Mathlib.Nat.{le_refl, le_of_suc-le-suc, not-suc-le-zero, eq-or-lt_of_le}
use native.Mathlib.Numerals.{add-one}
use native.Mathlib.Omega.{arith}
use lib.ListN.{length, get_or, take, drop, set, length-append, length-drop}
use lib.Seq.{drop-cons, take-suc, take_at, set_at, get_or_at, get_or-take}
use Rattle.theory.specs.Below.{values}

pub length_values : (n : ℕ) (f : ℕ → ℕ) → length (values n f) ≡ n
unfolding values
length_values zero f = refl
length_values (suc n) f = length-append (values n f) (f n ∷ []) ∙ omega (arith, length_values n f)

pub values_same : (n : ℕ) (f g : ℕ → ℕ) → ((i : ℕ) → i < n → f i ≡ g i) → values n f ≡ values n g
unfolding values
values_same zero f g h = refl
values_same (suc n) f g h = rw (h n (le_refl (suc n)), values_same n f g (λ i l. h i (omega (arith, l))))

-- the values of a list are the list
pub values_front : (l : List ℕ) (n : ℕ) → n ≤ length l → values n (λ q. get_or l q 0) ≡ take n l
unfolding values
values_front l zero h = refl
values_front l (suc n) h = ap (λ (front : List ℕ). front ++ (get_or l n 0 ∷ [])) (values_front l n (omega (arith, h))) ∙ sym (take-suc l n 0 h)

-- the values at the numbers below i stand in front of what is left of the area
abbrev pub filled : (ℕ → ℕ) → List ℕ → ℕ → List ℕ
filled f area i = values i f ++ drop i area

pub length_filled : (f : ℕ → ℕ) (area : List ℕ) (i : ℕ) → i ≤ length area → length (filled f area i) ≡ length area
length_filled f area i l = length-append (values i f) (drop i area) ∙ omega (arith, length_values i f, length-drop i area)

pub filled_turn : (f : ℕ → ℕ) (area : List ℕ) (i : ℕ) → i < length area → set (filled f area i) i (f i) ≡ filled f area (i + 1)
unfolding values
filled_turn f area i l =
    ap (λ (xs : List ℕ). set (values i f ++ xs) i (f i)) (drop-cons area i 0 l)
    ∙ set_at (values i f) _ (drop (suc i) area) (f i) i (length_values i f)
    ∙ sym (append_assoc (values i f) (f i ∷ []) (drop (suc i) area))
    ∙ rw (add-one i)

-- values that are equal fill an area alike
pub filled_same : (f g : ℕ → ℕ) (area : List ℕ) {i n : ℕ} → i ≡ n → ((q : ℕ) → q < n → f q ≡ g q) → filled f area i ≡ filled g area n
filled_same f g area {n = n} e h = ap (filled f area) e ∙ ap (λ (l : List ℕ). l ++ drop n area) (values_same n f g h)

pub get_or_filled : (f : ℕ → ℕ) (rest : List ℕ) (n q : ℕ) → q < n → get_or (values n f ++ rest) q 0 ≡ f q
unfolding values
get_or_filled f rest zero q l = absurd (not-suc-le-zero l)
get_or_filled f rest (suc n) q l =
    ap (λ (xs : List ℕ). get_or xs q 0) (append_assoc (values n f) (f n ∷ []) rest)
    ∙ ⊎_elim
    (λ (e : q ≡ n). rw e (get_or_at (values n f) (f n) rest 0 n (length_values n f)))
    (λ s. get_or_filled f (f n ∷ rest) n q s)
    (eq-or-lt_of_le (le_of_suc-le-suc l))

pub get_or_values : (n : ℕ) (f : ℕ → ℕ) (q : ℕ) → q < n → get_or (values n f) q 0 ≡ f q
get_or_values n f q l = ap (λ (xs : List ℕ). get_or xs q 0) (sym (append-nil (values n f))) ∙ get_or_filled f [] n q l

-- the first n of a list that was filled with values
pub filled_read : (n : ℕ) (f : ℕ → ℕ) (rest : List ℕ) {l : List ℕ} → l ≡ values n f ++ rest → (q : ℕ) → q < n → get_or (take n l) q 0 ≡ f q
filled_read n f rest {l} e q h = get_or-take n l q 0 h ∙ ap (λ (xs : List ℕ). get_or xs q 0) e ∙ get_or_filled f rest n q h

pub filled_count : (n : ℕ) (f : ℕ → ℕ) (rest : List ℕ) {l : List ℕ} → l ≡ values n f ++ rest → n ≡ length (take n l)
filled_count n f rest e = sym (ap (λ (xs : List ℕ). length (take n xs)) e ∙ ap length (take_at (values n f) rest n (length_values n f)) ∙ length_values n f)
