-- Proofs that come with a table (02, note 7), here called certificates: a block number for every state. Which of them
-- are valid, by table, set and reading; the states at fault in one that is not; and the one made for every table.
use Rattle.std.specs.Prelude.{◌≡◌, Bool, not, ◌&&◌, List, ℕ, ◌*◌, ◌<◌, eqb, length, get_or}
use Rattle.theory.specs.Below.{any, every, first, values}
use Rattle.theory.specs.Lists.{In, any_in}
use Rattle.theory.specs.Automaton.{Automaton, Trace, run, Reaches}
use Rattle.theory.specs.Monitor.{Monitor, reading, reached}
use Rattle.theory.specs.Pairs.{told}
use Rattle.theory.specs.Faults.{FaultStep}
use Rattle.theory.specs.Distance.{differ, faults_of}

-- the block of state q
abbrev pub block_of : List ℕ → ℕ → ℕ
block_of c q = get_or c q 0

-- c is a valid certificate
pub record Certificate (m : Monitor) (d set : ℕ) (c : List ℕ) : Type 0 where
  -- "length n", "block numbers below n"
  pub size : length c ≡ m.automaton.states
  pub below : (q : ℕ) → q < m.automaton.states → block_of c q < m.automaton.states
  -- "states of a block have equal readings"
  pub readings : (p q : ℕ) → p < m.automaton.states → q < m.automaton.states → block_of c p ≡ block_of c q
      → reading m d p ≡ reading m d q
  -- "every message takes a block into one block"
  pub messages : (p q a : ℕ) → p < m.automaton.states → q < m.automaton.states → a < m.automaton.symbols
      → block_of c p ≡ block_of c q → block_of c (m.automaton.next p a) ≡ block_of c (m.automaton.next q a)
  -- "from every reachable state each fault step of the set brings sent and received into the same block"
  pub faults : (p : ℕ) (s : FaultStep) → Reaches m.automaton m.start p → In s (faults_of m set)
      → block_of c (run m.automaton p s.sent) ≡ block_of c (run m.automaton p s.received)

-- ---- the states at fault

-- p and q are in one block
abbrev pub same_block : List ℕ → ℕ → ℕ → Bool
same_block c p q = eqb (block_of c p) (block_of c q)

-- q "disagrees with a lower state of its block"
abbrev pub disagrees : (ℕ → ℕ → Bool) → List ℕ → ℕ → Bool
disagrees agree c q = any q (λ p. same_block c p q && not (agree p q))

-- p and q have equal readings
abbrev pub read_alike : Monitor → ℕ → ℕ → ℕ → Bool
read_alike m d p q = eqb (reading m d p) (reading m d q)

-- every message takes p and q into one block
abbrev pub step_alike : Automaton → List ℕ → ℕ → ℕ → Bool
step_alike g c p q = every g.symbols (λ a. same_block c (g.next p a) (g.next q a))

-- the fault step s brings sent and received from p into different blocks
abbrev pub parts : Automaton → List ℕ → ℕ → FaultStep → Bool
parts g c p s = not (same_block c (run g p s.sent) (run g p s.received))

-- p can be reached, and from p some fault step of the set leads into different blocks
abbrev pub parted : Monitor → ℕ → List ℕ → ℕ → Bool
parted m set c p = reached m p && any_in (parts m.automaton c p) (faults_of m set)

-- ---- the certificate made for a table and a reading

-- p and q are never told apart: every trace leads from both to equal readings
abbrev pub NeverApart : Monitor → ℕ → ℕ → ℕ → Type 0
NeverApart m d p q =
    (w : List ℕ) → Trace m.automaton w
    → reading m d (run m.automaton p w) ≡ reading m d (run m.automaton q w)

-- the same as a test: with n states, traces of n * n symbols are long enough (proofs/Pairs.antt)
abbrev pub alike : Monitor → ℕ → ℕ → ℕ → Bool
alike m d p q = not (told m.automaton (differ m d) (m.automaton.states * m.automaton.states) p q)

-- the lowest state that is never told apart from q
abbrev pub lowest_alike : Monitor → ℕ → ℕ → ℕ
lowest_alike m d q = first (λ p. alike m d p q) 0 q

-- the block of every state: that state
abbrev pub made_blocks : Monitor → ℕ → List ℕ
made_blocks m d = values m.automaton.states (lowest_alike m d)
