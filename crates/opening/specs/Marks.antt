-- What the functions below the entry point read off lists of marks.
use Rattle.std.specs.Prelude.{Bool, cond, ◌&&◌, List, ℕ, eqb, get_or}
use Rattle.theory.specs.Below.{every}
use Rattle.theory.specs.Automaton.{Automaton}

-- the mark of q in a list
abbrev pub mark_in : List ℕ → ℕ → ℕ
mark_in vs q = get_or vs q 0

-- state q has the mark v
abbrev pub has_mark : List ℕ → ℕ → ℕ → Bool
has_mark vs v q = eqb (mark_in vs q) v

-- every symbol leads from q to a state with the mark v
abbrev pub all_lead_to : Automaton → (ℕ → ℕ) → ℕ → ℕ → Bool
all_lead_to g mark q v = every g.symbols (λ a. eqb (mark (g.next q a)) v)

-- the mark that q takes: that of its next states, where it has none and all of them have the same; else 0
abbrev pub new_mark : Automaton → (ℕ → ℕ) → ℕ → ℕ
new_mark g mark q = cond (eqb (mark q) 0 && all_lead_to g mark q (mark (g.next q 0))) (mark (g.next q 0)) 0
