-- The least total of a fault set: the fewest symbols of a harmful series from the start, by the depth of the state
-- where its fault is and what the cheapest fault costs there; and the symbols before the fault.
use Rattle.std.specs.Prelude.{◌≡◌, cond, List, [], ◌∷◌, ◌⊎◌, ℕ, zero, suc, ◌+◌, ◌≤◌, ◌<◌, eqb, length, get_or}
use Rattle.theory.specs.Below.{first}
use Rattle.theory.specs.Automaton.{Automaton}
use Rattle.theory.specs.Faults.{FaultStep}
use Rattle.square.specs.Square.{never}
use Rattle.faults.specs.Steps.{cost_of, Attained}
use Rattle.layers.specs.Layers.{depth_at}

-- `limit` is the greatest number of states and the size of the arrays

-- an array of which no place is used
pub record Unused (limit : ℕ) (v : List ℕ) : Type 0 where
  pub size : length v ≡ limit
  pub filled : (q : ℕ) → q < limit → get_or v q 0 ≡ never

-- ---- the least total

-- the cost entered at the i-th state of the order
abbrev pub cost_at : List ℕ → List ℕ → ℕ → ℕ
cost_at order costs i = get_or costs (get_or order i 0) 0

-- the first states of the order are not as deep as the total: a fault there can make it
abbrev pub Shallow : List ℕ → List ℕ → ℕ → ℕ → Type 0
Shallow order depths visited total = (i : ℕ) → i < visited → depth_at order depths i < total

-- some state is so deep that one of these fault steps makes the total there
pub record Makes (limit : ℕ) (g : Automaton) (square : List ℕ) (These : FaultStep → Type 0) (depths : List ℕ)
    (total : ℕ) : Type 0 where
  pub state : ℕ
  pub inside : state < g.states
  pub reached : get_or depths state 0 < limit
  pub step : FaultStep
  pub of : These step
  pub sum : get_or depths state 0 + cost_of g square state step ≡ total

-- what these fault steps cost at the first states of the order, and the least total they make there
pub record Costed (limit : ℕ) (g : Automaton) (square : List ℕ) (These : FaultStep → Type 0) (order depths : List ℕ)
    (visited : ℕ) (costs : List ℕ) (total : ℕ) : Type 0 where
  pub size : length costs ≡ limit
  pub most : total ≤ never
  pub shallow : Shallow order depths visited total
  pub above : (i : ℕ) → i < visited → total ≤ depth_at order depths i + cost_at order costs i
  pub least : (i : ℕ) → i < visited → (s : FaultStep) → These s
      → (cost_at order costs i ≤ cost_of g square (get_or order i 0) s)
      ⊎ (total < depth_at order depths i + cost_of g square (get_or order i 0) s)
  pub attained : (q : ℕ) → q < g.states → get_or costs q 0 < never → Attained g square q These (get_or costs q 0)
  pub makes : total < never → Makes limit g square These depths total

-- all states of the order that are not as deep as the total are among the first
pub record Enough (order depths : List ℕ) (count visited total : ℕ) : Type 0 where
  pub within : visited ≤ count
  pub all : (i : ℕ) → i < count → depth_at order depths i < total → i < visited

-- ---- the symbols before the fault; v has what is left of the total at the states on the way

-- the lowest symbol from p to a state with l left, or the number of symbols
abbrev pub onward : Automaton → List ℕ → ℕ → ℕ → ℕ
onward g v l p = first (λ a. eqb (get_or v (g.next p a) 0) l) 0 g.symbols

-- from p, with l symbols still to be sent: none where a fault step at p costs so much, else the lowest onward
unfoldable pub approach : Automaton → List ℕ → List ℕ → ℕ → ℕ → List ℕ
approach g v costs zero p = []
approach g v costs (suc l) p =
    let a = onward g v l p in
    cond (eqb (get_or costs p 0) (suc l)) [] (a ∷ approach g v costs l (g.next p a))

-- the same from a state with all that is left at it still to be sent
abbrev pub way_to_fault : Automaton → List ℕ → List ℕ → ℕ → List ℕ
way_to_fault g v costs start = approach g v costs (get_or v start 0) start

-- l is the cost at p, or some symbol leads on to a state with one less left
abbrev pub LeadsOn : Automaton → List ℕ → List ℕ → ℕ → ℕ → Type 0
LeadsOn g v costs l p = (get_or costs p 0 ≡ l) ⊎ ((m : ℕ) × (l ≡ suc m) × (onward g v m p < g.symbols))

-- it is so at every state on the way
pub record Leading (g : Automaton) (v costs : List ℕ) : Type 0 where
  pub leads : (p l : ℕ) → p < g.states → get_or v p 0 ≡ l → l < never → LeadsOn g v costs l p

-- of the states of the order from `from` up to `upto` those are on the way that lead on; what is left there and the
-- depth are the total
pub record OnTheWay (limit : ℕ) (g : Automaton) (order depths costs : List ℕ) (total from upto : ℕ) (v : List ℕ)
    : Type 0 where
  pub size : length v ≡ limit
  pub left : (q : ℕ) → q < g.states → get_or v q 0 < never → get_or v q 0 + get_or depths q 0 ≡ total
  pub leading : Leading g v costs
  pub complete : (i l : ℕ) → from ≤ i → i < upto → l + depth_at order depths i ≡ total
      → LeadsOn g v costs l (get_or order i 0) → get_or v (get_or order i 0) 0 ≡ l
