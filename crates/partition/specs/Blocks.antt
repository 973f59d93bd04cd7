-- The states below n in blocks, which become finer: the block of a state, the states of a block, what the square says.
use Rattle.std.specs.Prelude.{◌≡◌, Bool, cond, ◌&&◌, ◌||◌, List, ◌⊎◌, ℕ, suc, ◌≤◌, ◌<◌, eqb, ltb, get_or}
use Rattle.theory.specs.Monitor.{state_limit}
use Rattle.state_set.specs.Member.{set_at}
use Rattle.square.specs.Square.{never, entry}
use Rattle.partition.specs.declared.Blocks.{Blocks}

-- the number of the block that state q is in
abbrev pub block : Blocks → ℕ → ℕ
block blocks q = get_or blocks.numbers q 0

-- the states below n are in the blocks below the count, none of which is empty; set c has the states of block c, and
-- two states of one block, and no others, are not told apart
pub record Partition (n : ℕ) (square : List ℕ) (blocks : Blocks) : Type 0 where
  pub few : n ≤ state_limit
  pub below : (q : ℕ) → q < n → block blocks q < blocks.count
  pub some : (c : ℕ) → c < blocks.count → (q : ℕ) × (q < n) × (block blocks q ≡ c)
  pub members_are : (c q : ℕ) → c < blocks.count → set_at blocks.members c q ≡ (ltb q n && eqb (block blocks q) c)
  pub together : (p q : ℕ) → p < n → q < n → eqb (entry square p q) never ≡ eqb (block blocks p) (block blocks q)

-- ---- what a split changes

-- one of the two states passes the one test, the other the other
abbrev pub between : (ℕ → Bool) → (ℕ → Bool) → ℕ → ℕ → Bool
between one others p q = (one p && others q) || (one q && others p)

-- the entries of the pairs that pass the test became d
pub record Entries (before : List ℕ) (test : ℕ → ℕ → Bool) (d : ℕ) (after : List ℕ) : Type 0 where
  pub at : (p q : ℕ) → p < state_limit → q < state_limit → entry after p q ≡ cond (test p q) d (entry before p q)

-- the states that pass the test are now in block c, and nothing else changed
pub record Numbered (before : Blocks) (test : ℕ → Bool) (c : ℕ) (after : Blocks) : Type 0 where
  pub at : (q : ℕ) → q < state_limit → block after q ≡ cond (test q) c (block before q)
  pub members_same : after.members ≡ before.members
  pub count_same : after.count ≡ before.count

-- block b became the others, a new block the ones, and d was entered for each of these with each of those
pub record Split (b : ℕ) (one others : ℕ → Bool) (d : ℕ) (square : List ℕ) (blocks : Blocks) (square' : List ℕ)
    (blocks' : Blocks) : Type 0 where
  pub entries : Entries square (between one others) d square'
  pub numbered : (q : ℕ) → q < state_limit → block blocks' q ≡ cond (one q) blocks.count (block blocks q)
  pub counted : blocks'.count ≡ suc blocks.count
  pub new : (q : ℕ) → set_at blocks'.members blocks.count q ≡ one q
  pub old : (b ≡ blocks.count → ⊥) → (q : ℕ) → set_at blocks'.members b q ≡ others q
  pub elsewhere : (x q : ℕ) → (x ≡ b → ⊥) → (x ≡ blocks.count → ⊥)
      → set_at blocks'.members x q ≡ set_at blocks.members x q

-- ---- finer blocks

-- the states p and q, which were in one block, are entered at d for a reason, and one of them is in a new block
pub record Parted (d : ℕ) (reason : ℕ → ℕ → Type 0) (blocks : Blocks) (square' : List ℕ) (blocks' : Blocks) (p q : ℕ)
    : Type 0 where
  pub at : entry square' p q ≡ d
  pub were_one : block blocks p ≡ block blocks q
  pub why : reason p q
  pub fresh : (blocks.count ≤ block blocks' p) ⊎ (blocks.count ≤ block blocks' q)

-- each block lies in one of the blocks before, and every entry is as it was but for states that are parted
pub record Finer (n d : ℕ) (reason : ℕ → ℕ → Type 0) (square : List ℕ) (blocks : Blocks) (square' : List ℕ)
    (blocks' : Blocks) : Type 0 where
  pub more : blocks.count ≤ blocks'.count
  pub were_one : (p q : ℕ) → p < n → q < n → block blocks' p ≡ block blocks' q → block blocks p ≡ block blocks q
  pub renumbered : (q : ℕ) → q < n → (block blocks' q ≡ block blocks q) ⊎ (blocks.count ≤ block blocks' q)
  pub entries : (p q : ℕ) → p < n → q < n
      → (entry square' p q ≡ entry square p q) ⊎ Parted d reason blocks square' blocks' p q

-- a set parts two states: it has one of them and not the other
abbrev pub Parts : (ℕ → Bool) → ℕ → ℕ → Type 0
Parts set p q = set p ≡ set q → ⊥

-- no block has a state in the set and one that is not in it
pub record Stable (n : ℕ) (set : ℕ → Bool) (blocks : Blocks) : Type 0 where
  pub at : (p q : ℕ) → p < n → q < n → block blocks p ≡ block blocks q → set p ≡ set q

-- the blocks were split by the set, each that has a state in it and one that is not in it
pub record Divided (n d : ℕ) (set : ℕ → Bool) (square : List ℕ) (blocks : Blocks) (square' : List ℕ)
    (blocks' : Blocks) : Type 0 where
  pub partition : Partition n square' blocks'
  pub finer : Finer n d (Parts set) square blocks square' blocks'
  pub stable : Stable n set blocks'
