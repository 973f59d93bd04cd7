-- Tests of the numbers below a bound: whether some number passes, whether every one does, how many pass, which is the
-- first; and the values at these numbers.
use Rattle.std.specs.Prelude.{Bool, false, not, cond, ◌||◌, List, [], ◌∷◌, ◌++◌, ℕ, zero, suc}

-- some number below n passes the test
unfoldable pub any : ℕ → (ℕ → Bool) → Bool
any zero f = false
any (suc i) f = f i || any i f

-- every number below n passes the test
abbrev pub every : ℕ → (ℕ → Bool) → Bool
every n f = not (any n (λ i. not (f i)))

-- how many numbers below n pass the test
unfoldable pub count : ℕ → (ℕ → Bool) → ℕ
count zero f = 0
count (suc i) f = cond (f i) (suc (count i f)) (count i f)

-- the first of the c numbers from a on that passes the test, or a + c where none does
unfoldable pub first : (ℕ → Bool) → ℕ → ℕ → ℕ
first f a zero = a
first f a (suc c) = cond (f a) a (first f (suc a) c)

-- the values at the numbers below n, in order
unfoldable pub values : ℕ → (ℕ → ℕ) → List ℕ
values zero f = []
values (suc i) f = values i f ++ (f i ∷ [])
