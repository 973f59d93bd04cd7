-- Three-valued monitors (01's tables), the six classes of their states, and the four monitorabilities. Classes and
-- monitorability stand here twice: as published (document 004, definitions 8 and 10, lemma 3), by the existence of
-- traces; and as numbers that compute.
-- proofs/Exact.antt shows that the two say the same.
use Rattle.std.specs.Prelude.{◌≡◌, Bool, true, false, cond, ◌&&◌, ℕ, zero, suc, ◌≤◌, ◌<◌, eqb}
use Rattle.theory.specs.Below.{any, count}
use Rattle.theory.specs.Automaton.{Automaton, Closed, Reaches, leads, reached_from}

-- an automaton with a start and a verdict at each state: 0 not yet, 1 true, 2 false
pub record Monitor : Type 0 where
  pub automaton : Automaton
  pub start : ℕ
  pub verdict : ℕ → ℕ

-- the greatest number of states (question 2; "The graphics inserter needs up to 128", 02, note 6)
abbrev pub state_limit : ℕ
state_limit = 128

-- the greatest number of symbols (question 3)
abbrev pub symbol_limit : ℕ
symbol_limit = 16

-- what questions 2, 3 and 5 to 8 leave of a monitor; `limit` is the greatest number of states
pub record WellFormed (limit : ℕ) (m : Monitor) : Type 0 where
  pub states_most : m.automaton.states ≤ limit
  pub symbols_least : 1 ≤ m.automaton.symbols
  pub symbols_most : m.automaton.symbols ≤ symbol_limit
  pub start_in : m.start < m.automaton.states
  pub closed : Closed m.automaton
  pub verdict_in : (q : ℕ) → q < m.automaton.states → m.verdict q ≤ 2
  pub verdict_kept : (q a : ℕ) → q < m.automaton.states → a < m.automaton.symbols → 0 < m.verdict q
      → m.verdict (m.automaton.next q a) ≡ m.verdict q

-- "a true state can be reached", and likewise a false one: a state with the verdict v
pub record Finds (m : Monitor) (v q : ℕ) : Type 0 where
  pub state : ℕ
  pub reaches : Reaches m.automaton q state
  pub reads : m.verdict state ≡ v

-- the classes of definition 8, under 01's numbers
pub data Class (m : Monitor) (q : ℕ) : ℕ → Type 0 where
  good : m.verdict q ≡ 1 → Class m q 0
  bad : m.verdict q ≡ 2 → Class m q 1
  positive : m.verdict q ≡ 0 → Finds m 1 q → ¬ (Finds m 2 q) → Class m q 2
  negative : m.verdict q ≡ 0 → ¬ (Finds m 1 q) → Finds m 2 q → Class m q 3
  neutral : m.verdict q ≡ 0 → Finds m 1 q → Finds m 2 q → Class m q 4
  ugly : m.verdict q ≡ 0 → ¬ (Finds m 1 q) → ¬ (Finds m 2 q) → Class m q 5

-- "good and positive give pos, bad and negative neg, neutral both, ugly none (definition 10); as numbers these four are
-- 0 to 3"; by class: good, bad, positive, negative, neutral, ugly. From 6 on there is no class, and none is given
abbrev pub weak : ℕ → ℕ
weak zero = 0
weak (suc zero) = 1
weak (suc (suc zero)) = 0
weak (suc (suc (suc zero))) = 1
weak (suc (suc (suc (suc zero)))) = 2
weak (suc (suc (suc (suc (suc zero))))) = 3
weak (suc (suc (suc (suc (suc (suc c)))))) = 3

-- "A table is none if any state reachable from the start is ugly (lemma 3), else as its start."
pub data Monitorability (m : Monitor) : ℕ → Type 0 where
  none : (q : ℕ) → Reaches m.automaton m.start q → Class m q 5 → Monitorability m 3
  as_start : (c : ℕ) → ((q : ℕ) → Reaches m.automaton m.start q → ¬ (Class m q 5)) → Class m m.start c
      → Monitorability m (weak c)

-- state q has the verdict v
abbrev pub marked : Monitor → ℕ → ℕ → Bool
marked m v q = eqb (m.verdict q) v

-- the class of a state with the verdict v, by whether true and whether false can be reached
abbrev pub class_from : ℕ → Bool → Bool → ℕ
class_from zero true false = 2
class_from zero false true = 3
class_from zero true true = 4
class_from zero false false = 5
class_from (suc zero) t f = 0
class_from (suc (suc v)) t f = 1

-- the class of state q
unfoldable pub class : Monitor → ℕ → ℕ
class m q = class_from (m.verdict q) (leads m.automaton (marked m 1) q) (leads m.automaton (marked m 2) q)

-- state q can be reached from the start
abbrev pub reached : Monitor → ℕ → Bool
reached m q = reached_from m.automaton m.start q

-- state q can be reached from the start and is ugly
abbrev pub ugly_reached : Monitor → ℕ → Bool
ugly_reached m q = reached m q && eqb (class m q) 5

-- the monitorability of the table
unfoldable pub monitorability : Monitor → ℕ
monitorability m = cond (any m.automaton.states (ugly_reached m)) 3 (weak (class m m.start))

-- "the number of states reached"
unfoldable pub states_reached : Monitor → ℕ
states_reached m = count m.automaton.states (reached m)

-- what is taken by a reading, 3 or 6 ("Is the reading 3 or 6?"); any other number is no reading
abbrev pub by_reading : ℕ → ℕ → ℕ → ℕ
by_reading d three six = cond (eqb d 3) three (cond (eqb d 6) six 0)

-- what state q reads: its verdict under reading 3, its class under reading 6; 0 under no reading
unfoldable pub reading : Monitor → ℕ → ℕ → ℕ
reading m d q = by_reading d (m.verdict q) (class m q)

-- how many verdicts a reading has, numbered from 0: three marks, six classes; none under no reading
abbrev pub verdicts_of : ℕ → ℕ
verdicts_of d = by_reading d 3 6
