-- The rounds: blocks split by outputs, by what leads into a splitter, and by all new blocks; and the last round.
use mathlib.Core.Path.{◌≡◌, refl, sym, ap, ◌∙◌}
use mathlib.Core.Bool.{Bool, true, false, not, ◌&&◌, ◌||◌, and-true, and-false}
use mathlib.Core.List.{List}
use mathlib.Core.Logic.{◌⊎◌, inl, inr, ⊎_elim}
use Prim.Native.Nat.{ℕ, suc, ◌+◌, ◌≤◌, ◌<◌}
use native.Mathlib.Omega.{arith}
use lib.Dec.{eqb, ltb}
use lib.ListN.{length, get_or, set}
use lib.Seq.{get_or-set_same, get_or-set_other}
use borrow.Author.Tests.{eq-eqb, ne_eqb, eqb-true, lt-leb, lt-ltb, ltb-true}
use Rattle.theory.specs.Automaton.{Automaton, Closed}
use Rattle.theory.specs.Below.{count}
use Rattle.theory.specs.Monitor.{state_limit}
use Rattle.theory.specs.Pairs.{told}
use Rattle.theory.proofs.Below.{clash, not_clash, lt_or_le, same_or_not, or_cases, and_left, and_right, count_more}
use Rattle.state_set.specs.declared.StateSet.{StateSet}
use Rattle.state_set.specs.Member.{member, Exactly, no_states, set_at}
use Rattle.opening.specs.Marks.{has_mark}
use Rattle.square.specs.declared.Test.TheVariants.{Differ}
use Rattle.square.specs.Square.{never, HasRows, entry, Squared, Stage, passing}
use Rattle.square.proofs.Stage.{told_by, stage_entry, stage_told, stage_near, stage_next, stage_last}
use Rattle.rows.specs.Sets.{Into, Within}
use Rattle.partition.specs.declared.Blocks.{Blocks}
use Rattle.partition.specs.Blocks.{block, Partition, Finer, Parted, Parts, Stable, Divided}
use Rattle.partition.proofs.Splits.{finer_none, finer_as, finer_then, stable_later}
use Rattle.refining.specs.Refined.{Unlike, LeadsApart, Alone, Only, Inside, Refined}

-- ---- split by outputs

pub marked_in : {n : ℕ} (v : ℕ) (outs : List ℕ) {s : StateSet} → length outs ≡ n → Exactly (length outs) (has_mark outs v) s → (q : ℕ) → q < n
    → member s q ≡ eqb (get_or outs q 0) v
marked_in v outs e S q lq = S.at q ∙ rw (lt-ltb q (length outs) (omega (arith, e, lq)))

-- two states of a block, one of which is not left, have one output
pub record Sorting (n : ℕ) (outs square₀ : List ℕ) (blocks₀ : Blocks) (left : ℕ → Bool) (square : List ℕ) (blocks : Blocks) : Type 0 where
  pub partition : Partition n square blocks
  pub finer : Finer n 0 (Unlike outs) square₀ blocks₀ square blocks
  pub inside : (q : ℕ) → left q ≡ true → q < n
  pub done : (p q : ℕ) → p < n → q < n → left p ≡ false → block blocks p ≡ block blocks q → get_or outs p 0 ≡ get_or outs q 0

pub sorting_begins : {n : ℕ} {outs square : List ℕ} {blocks : Blocks} {left : ℕ → Bool} → Partition n square blocks
    → ((q : ℕ) → left q ≡ ltb q n) → Sorting n outs square blocks left square blocks
sorting_begins {n} P is = record {
  partition = P;
  finer = finer_none;
  inside = λ q t. ltb-true q n (sym (is q) ∙ t);
  done = λ p q lp lq h. absurd (clash (is p ∙ lt-ltb p n lp) h);
}

module _ {n : ℕ} {outs square₀ : List ℕ} {blocks₀ : Blocks} {left : ℕ → Bool} {square : List ℕ} {blocks : Blocks}
    (S : Sorting n outs square₀ blocks₀ left square blocks) where
  pub sorting_more : (x : ℕ) {like left' : ℕ → Bool} {square' : List ℕ} {blocks' : Blocks}
      → ((q : ℕ) → q < n → like q ≡ eqb (get_or outs q 0) (get_or outs x 0))
      → Divided n 0 like square blocks square' blocks'
      → ((q : ℕ) → left' q ≡ (left q && not (like q))) → Sorting n outs square₀ blocks₀ left' square' blocks'
  sorting_more x {like = like} {left'} {blocks' = blocks'} is D il = record {
    partition = D.partition;
    finer = finer_then S.finer (finer_as (Unlike outs) (λ p q lp lq _ why e. why (is p lp ∙ rw e (sym (is q lq)))) D.finer);
    inside = λ q t. S.inside q (and_left (left q) (not (like q)) (sym (il q) ∙ t));
    done = λ p q lp lq h e. go p q lp lq h e (like p) refl;
  }
    where
      go : (p q : ℕ) → p < n → q < n → left' p ≡ false → block blocks' p ≡ block blocks' q → (b : Bool) → like p ≡ b → get_or outs p 0 ≡ get_or outs q 0
      go p q lp lq h e true t =
          eqb-true (get_or outs p 0) (get_or outs x 0) (sym (is p lp) ∙ t)
          ∙ sym (eqb-true (get_or outs q 0) (get_or outs x 0) (sym (is q lq) ∙ sym (D.stable.at p q lp lq e) ∙ t))
      go p q lp lq h e false t =
          S.done p q lp lq (not_clash (λ u. clash (il p ∙ rw (u, t)) h)) (D.finer.were_one p q lp lq e)

-- after the first split every pair has had no round yet, and those at 0 are apart by a new block
pub refined_first : {g : Automaton} (outs : List ℕ) {square₀ : List ℕ} {blocks₀ : Blocks} {square : List ℕ} {blocks : Blocks}
    → Partition g.states square₀ blocks₀ → blocks₀.count ≤ 1 → Partition g.states square blocks
    → Finer g.states 0 (Unlike outs) square₀ blocks₀ square blocks
    → ((p q : ℕ) → p < g.states → q < g.states → block blocks p ≡ block blocks q → get_or outs p 0 ≡ get_or outs q 0)
    → Refined g (passing Differ outs) 0 1 square blocks
unfolding told
refined_first {g} outs {square₀} {blocks₀} {square} {blocks} P₀ one P F like = record {
  stage = λ p q lp lq. ⊎_elim (alike p q lp lq) (apart p q) (F.entries p q lp lq);
  fresh = λ p q lp lq e. ⊎_elim (λ u. (let z = was p q lp lq in absurd (omega (arith, e, u, z)))) (λ h. (let l = P₀.below p lp in ⊎_elim (λ k. inl (omega (arith, k, l))) (λ k. inr (omega (arith, k, l))) h.fresh)) (F.entries p q lp lq);
}
  where
    was : (p q : ℕ) → p < g.states → q < g.states → entry square₀ p q ≡ never
    was p q lp lq =
        let a = P₀.below p lp in
        let b = P₀.below q lq in
        eqb-true (entry square₀ p q) never (P₀.together p q lp lq ∙ eq-eqb (block blocks₀ p) (block blocks₀ q) (omega (arith, a, b, one)))

    alike : (p q : ℕ) → p < g.states → q < g.states → entry square p q ≡ entry square₀ p q → Stage g (passing Differ outs) 0 p q (entry square p q)
    alike p q lp lq u =
        let e = u ∙ was p q lp lq in
        let same = like p q lp lq (eqb-true (block blocks p) (block blocks q) (sym (P.together p q lp lq) ∙ eq-eqb (entry square p q) never e)) in
        record {
          agrees = λ s l. (let z : s ≡ 0 = omega (arith, l) in rw (z, e, eq-eqb (get_or outs p 0) (get_or outs q 0) same));
          known = inr e;
        }

    apart : (p q : ℕ) → Parted 0 (Unlike outs) blocks₀ square blocks p q → Stage g (passing Differ outs) 0 p q (entry square p q)
    apart p q h =
        let e = h.at in
        record {
          agrees = λ s l. (let z : s ≡ 0 = omega (arith, l) in rw (z, e, ne_eqb (get_or outs p 0) (get_or outs q 0) h.why));
          known = inl (omega (arith, e));
        }

-- ---- split by what leads into a splitter

-- the symbols below a are done
pub record Leading (g : Automaton) (set : ℕ → Bool) (d : ℕ) (square₀ : List ℕ) (blocks₀ : Blocks) (a : ℕ) (square : List ℕ) (blocks : Blocks) : Type 0 where
  pub partition : Partition g.states square blocks
  pub finer : Finer g.states d (LeadsApart g set) square₀ blocks₀ square blocks
  pub done : (b : ℕ) → b < a → Stable g.states (λ q. set (g.next q b)) blocks

pub leading_begins : {g : Automaton} {set : ℕ → Bool} {d : ℕ} {square : List ℕ} {blocks : Blocks} → Partition g.states square blocks
    → Leading g set d square blocks 0 square blocks
leading_begins P = record { partition = P; finer = finer_none; done = λ b l. absurd (omega (arith, l)) }

pub leading_more : {g : Automaton} {set lead alone into : ℕ → Bool} {d : ℕ} {square₀ : List ℕ} {blocks₀ : Blocks} {a : ℕ} {square : List ℕ}
    {blocks : Blocks} {square' : List ℕ} {blocks' : Blocks} → a < g.symbols → Into g a (λ q. true) set lead
    → ((q : ℕ) → into q ≡ (lead q && not (alone q))) → Alone g.states alone blocks₀ → Leading g set d square₀ blocks₀ a square blocks
    → Divided g.states d into square blocks square' blocks' → Leading g set d square₀ blocks₀ (a + 1) square' blocks'
leading_more {g} {set} {lead} {alone} {into} {blocks₀ = blocks₀} {a} {blocks = blocks} {blocks' = blocks'} la I less A L D = record {
  partition = D.partition;
  finer = finer_then L.finer (finer_as (LeadsApart g set) because D.finer);
  done = λ b l. ⊎_elim
      (λ (h : b < a). stable_later D.finer (L.done b h))
      (λ h. (let z : b ≡ a = omega (arith, h, l) in record { at = λ p q lp lq e. rw z (same p q lp lq e) }))
      (lt_or_le b a);
}
  where
    -- of a state that is not alone in its block
    is : (p q : ℕ) → p < g.states → q < g.states → block blocks p ≡ block blocks q → (p ≡ q → ⊥) → into p ≡ set (g.next p a)
    is p q lp lq e ne =
        let h : alone p ≡ false = not_clash (λ t. ne (A.at p q lp lq t (L.finer.were_one p q lp lq e))) in
        less p ∙ rw (h, I.at p, lt-ltb p g.states lp) (and-true (set (g.next p a)))

    because : (p q : ℕ) → p < g.states → q < g.states → block blocks p ≡ block blocks q → Parts into p q → LeadsApart g set p q
    because p q lp lq e why = ⊎_elim
        (λ (z : p ≡ q). absurd (why (ap into z)))
        (λ ne. (a, la, λ h. why (is p q lp lq e ne ∙ h ∙ sym (is q p lq lp (sym e) (λ z. ne (sym z))))))
        (same_or_not p q)

    same : (p q : ℕ) → p < g.states → q < g.states → block blocks' p ≡ block blocks' q → set (g.next p a) ≡ set (g.next q a)
    same p q lp lq e = ⊎_elim
        (λ (z : p ≡ q). ap (λ (x : ℕ). set (g.next x a)) z)
        (λ ne.
        let b = D.finer.were_one p q lp lq e in
        sym (is p q lp lq b ne) ∙ D.stable.at p q lp lq e ∙ is q p lq lp (sym b) (λ z. ne (sym z)))
        (same_or_not p q)

-- the empty set parts no states
pub divided_none : {n d : ℕ} {set : ℕ → Bool} {square : List ℕ} {blocks : Blocks} → Partition n square blocks
    → ((q : ℕ) → q < state_limit → set q ≡ false) → Divided n d set square blocks square blocks
divided_none P none = record {
  partition = P;
  finer = finer_none;
  stable = record {
    at = λ p q lp lq e. none p (let few = P.few in omega (arith, lp, few)) ∙ sym (none q (let few = P.few in omega (arith, lq, few)));
  };
}

-- ---- states that are alone

pub alone_none : {n : ℕ} {set : ℕ → Bool} {blocks : Blocks} → ((q : ℕ) → set q ≡ false) → Alone n set blocks
alone_none none = record { at = λ p q lp lq t. absurd (clash t (none p)) }

-- some more, each in a block of its own
pub alone_more : {n : ℕ} {square : List ℕ} {blocks : Blocks} {some more all : ℕ → Bool} → Partition n square blocks → Alone n some blocks
    → ((p : ℕ) → p < state_limit → more p ≡ true → Only blocks p) → ((q : ℕ) → all q ≡ (some q || more q)) → Alone n all blocks
alone_more {n} {blocks = blocks} {some} {more} P A O is = record {
  at = λ p q lp lq t e. ⊎_elim (λ h. A.at p q lp lq h e) (λ h. sole p q lp lq e (O p (let few = P.few in omega (arith, lp, few)) h))
      (or_cases (some p) (more p) (sym (is p) ∙ t));
}
  where
    sole : (p q : ℕ) → p < n → q < n → block blocks p ≡ block blocks q → Only blocks p → p ≡ q
    sole p q lp lq e o =
        let c = o.number in
        let h = eqb-true (block blocks p) c (and_right (ltb p n) (eqb (block blocks p) c) (sym (P.members_are c p o.below) ∙ o.here)) in
        o.sole q (let few = P.few in omega (arith, lq, few)) (P.members_are c q o.below ∙ rw (lt-ltb q n lq, eq-eqb (block blocks q) c (sym e ∙ h)))

-- the blocks before c are looked at
pub only_more : {c : ℕ} {blocks : Blocks} {some block single all : ℕ → Bool} → c < blocks.count
    → ((p : ℕ) → p < state_limit → some p ≡ true → Only blocks p) → ((q : ℕ) → block q ≡ set_at blocks.members c q)
    → ((p : ℕ) → single p ≡ true → block p ≡ true)
    → ((p q : ℕ) → p < state_limit → q < state_limit → single p ≡ true → block q ≡ true → p ≡ q)
    → ((q : ℕ) → all q ≡ (some q || single q)) → (p : ℕ) → p < state_limit → all p ≡ true → Only blocks p
only_more {c} {some = some} {single = single} lc O is within sole ia p lp t =
    ⊎_elim (O p lp)
    (λ h. record { number = c; below = lc; here = sym (is p) ∙ within p h; sole = λ q lq u. sole p q lp lq h (is q ∙ u) })
    (or_cases (some p) (single p) (sym (ia p) ∙ t))

pub alone_later : {n : ℕ} {set : ℕ → Bool} {blocks blocks' : Blocks} → Inside n blocks blocks' → Alone n set blocks → Alone n set blocks'
alone_later I A = record { at = λ p q lp lq t e. A.at p q lp lq t (I.were_one p q lp lq e) }

-- the only state of a block
pub only_one : (block : ℕ → Bool) → count state_limit block ≡ 1
    → (p q : ℕ) → p < state_limit → q < state_limit → block p ≡ true → block q ≡ true → p ≡ q
only_one block e p q lp lq tp tq = ⊎_elim (λ h. h) (λ ne. absurd (omega (arith, e, one, two ne))) (same_or_not p q)
  where
    rest : ℕ → Bool
    rest x = block x && not (eqb x p)

    one : count state_limit rest < count state_limit block
    one = count_more state_limit rest block (λ x _ t. and_left (block x) (not (eqb x p)) t) p lp (rw (eq-eqb p p refl) (and-false (block p))) tp

    two : (p ≡ q → ⊥) → 0 < count state_limit rest
    two ne = (let h = count_more state_limit (λ x. false) rest (λ x _ t. absurd (clash t refl)) q lq refl
        (rw (tq, ne_eqb q p (λ z. ne (sym z))) refl) in omega (arith, h))

-- ---- a round

-- the sets from `old` to c are copied
pub copied_more : (members splitters : List StateSet) (x : StateSet) {old c : ℕ} → c < length splitters
    → ((e q : ℕ) → old ≤ e → e < c → set_at splitters e q ≡ set_at members e q)
    → ((q : ℕ) → member x q ≡ set_at members c q) → (e q : ℕ) → old ≤ e → e < c + 1 → set_at (set splitters c x) e q ≡ set_at members e q
copied_more members splitters x {c = c} lc before is e q lo l =
    ⊎_elim
    (λ (z : e ≡ c). rw z (rw (get_or-set_same splitters c x no_states lc) (is q)))
    (λ ne. rw (get_or-set_other splitters c e x no_states ne)
    (before e q lo (⊎_elim (λ h. h) (λ h. absurd (ne (omega (arith, h, l)))) (lt_or_le e c))))
    (same_or_not e c)

pub block_within : {n c : ℕ} {square : List ℕ} {blocks : Blocks} {set : ℕ → Bool} → Partition n square blocks → c < blocks.count
    → ((q : ℕ) → set q ≡ set_at blocks.members c q) → Within n set
block_within {n} {c} {blocks = blocks} P lc is = record {
  at = λ q t. ltb-true q n (and_left (ltb q n) (eqb (block blocks q) c) (sym (is q ∙ P.members_are c q lc) ∙ t));
}

-- the splitters below c are done: no symbol leads one of two states of a block into one of them, and not the other
pub record Refining (g : Automaton) (ends : ℕ → ℕ → Bool) (r old : ℕ) (square₀ : List ℕ) (blocks₀ : Blocks) (c : ℕ) (square : List ℕ)
    (blocks : Blocks) : Type 0 where
  pub finer : Finer g.states (r + 1) (λ p q. told g ends (suc r) p q ≡ true) square₀ blocks₀ square blocks
  pub done : (e a : ℕ) → old ≤ e → e < c → a < g.symbols → Stable g.states (λ q. eqb (block blocks₀ (g.next q a)) e) blocks

pub refining_begins : {g : Automaton} {ends : ℕ → ℕ → Bool} {r old : ℕ} {square : List ℕ} {blocks : Blocks}
    → Refining g ends r old square blocks old square blocks
refining_begins = record { finer = finer_none; done = λ e a l h. absurd (omega (arith, l, h)) }

module _ {g : Automaton} {ends : ℕ → ℕ → Bool} {r old : ℕ} {square₀ : List ℕ} {blocks₀ : Blocks} (closed : Closed g) (fits : r + 1 < never)
    (P : Partition g.states square₀ blocks₀) (L : Refined g ends r old square₀ blocks₀) where
  -- states of two blocks are told apart within r
  apart : (x y : ℕ) → x < g.states → y < g.states → (block blocks₀ x ≡ block blocks₀ y → ⊥) → told g ends r x y ≡ true
  apart x y lx ly ne =
      stage_told (L.stage x y lx ly) (⊎_elim (λ h. h)
      (λ h. absurd (ne (eqb-true (block blocks₀ x) (block blocks₀ y) (sym (P.together x y lx ly) ∙ eq-eqb (entry square₀ x y) never h))))
      (L.stage x y lx ly).known)

  -- and states at r are of two blocks
  not_one : (x y : ℕ) → x < g.states → y < g.states → entry square₀ x y ≡ r → block blocks₀ x ≡ block blocks₀ y → ⊥
  not_one x y lx ly e same =
      let z = eqb-true (entry square₀ x y) never (P.together x y lx ly ∙ eq-eqb (block blocks₀ x) (block blocks₀ y) same) in
      omega (arith, e, z, fits)

  module _ {c : ℕ} {square : List ℕ} {blocks : Blocks} (R : Refining g ends r old square₀ blocks₀ c square blocks) where
    pub refining_more : {set : ℕ → Bool} {square' : List ℕ} {blocks' : Blocks} → c < blocks₀.count → ((q : ℕ) → set q ≡ set_at blocks₀.members c q)
        → Finer g.states (r + 1) (LeadsApart g set) square blocks square' blocks'
        → ((a : ℕ) → a < g.symbols → Stable g.states (λ q. set (g.next q a)) blocks')
        → Refining g ends r old square₀ blocks₀ (c + 1) square' blocks'
    refining_more {set} {blocks' = blocks'} lc is F T = record {
      finer = finer_then R.finer (finer_as (λ p q. told g ends (suc r) p q ≡ true) (λ p q lp lq _. because p q lp lq) F);
      done = λ e a lo l la. ⊎_elim
          (λ (h : e < c). stable_later F (R.done e a lo h la))
          (λ h. (let z : e ≡ c = omega (arith, h, l) in record {
            at = λ p q lp lq b. rw z (sym (at p a lp la) ∙ (T a la).at p q lp lq b ∙ at q a lq la);
          }))
          (lt_or_le e c);
    }
      where
        of_block : (x : ℕ) → x < g.states → set x ≡ eqb (block blocks₀ x) c
        of_block x lx = is x ∙ P.members_are c x lc ∙ rw (lt-ltb x g.states lx)

        at : (p a : ℕ) → p < g.states → a < g.symbols → set (g.next p a) ≡ eqb (block blocks₀ (g.next p a)) c
        at p a lp la = of_block (g.next p a) (closed.next_in p a lp la)

        because : (p q : ℕ) → p < g.states → q < g.states → LeadsApart g set p q → told g ends (suc r) p q ≡ true
        because p q lp lq why =
            let a = why.0 in
            let la = why.1 in
            told_by g ends r p q a la (apart (g.next p a) (g.next q a) (closed.next_in p a lp la) (closed.next_in q a lq la)
            (λ same. why.2 (at p a lp la ∙ rw same (sym (at q a lq la)))))

    -- when all are done, every pair has had the round
    pub refining_ends : blocks₀.count ≤ c → Partition g.states square blocks → Refined g ends (suc r) blocks₀.count square blocks
    refining_ends all P' = record { stage = λ p q lp lq. now p q lp lq (R.finer.entries p q lp lq); fresh = new }
      where
        new : (p q : ℕ) → p < g.states → q < g.states → entry square p q ≡ suc r → (blocks₀.count ≤ block blocks p) ⊎ (blocks₀.count ≤ block blocks q)
        new p q lp lq e =
            ⊎_elim
            (λ u. absurd (⊎_elim (λ l. omega (arith, l, e, u)) (λ h. omega (arith, h, e, u, fits)) (L.stage p q lp lq).known))
            (λ h. h.fresh) (R.finer.entries p q lp lq)

        -- a symbol that leads two states of a block to a pair told apart within r: they were told apart
        by : (p q a : ℕ) → p < g.states → q < g.states → a < g.symbols → block blocks p ≡ block blocks q
            → told g ends r (g.next p a) (g.next q a) ≡ true → entry square₀ p q ≤ r
        by p q a lp lq la same t =
            let x = g.next p a in
            let y = g.next q a in
            let lx = closed.next_in p a lp la in
            let ly = closed.next_in q a lq la in
            let lbx = P.below x lx in
            let lby = P.below y ly in
            ⊎_elim
            (λ e. absurd (not_one x y lx ly e (⊎_elim
            (λ l. sym (eqb-true (block blocks₀ y) (block blocks₀ x)
            (sym ((R.done (block blocks₀ x) a l (omega (arith, lbx, all)) la).at p q lp lq same) ∙ eq-eqb (block blocks₀ x) (block blocks₀ x) refl)))
            (λ l. eqb-true (block blocks₀ x) (block blocks₀ y)
            ((R.done (block blocks₀ y) a l (omega (arith, lby, all)) la).at p q lp lq same ∙ eq-eqb (block blocks₀ y) (block blocks₀ y) refl))
            (L.fresh x y lx ly e))))
            (λ s. (let e = s.1 in stage_entry (L.stage p q lp lq) (rw e (told_by g ends s.0 p q a la s.2))))
            (stage_near (L.stage x y lx ly) t)

        now : (p q : ℕ) → p < g.states → q < g.states
            → (entry square p q ≡ entry square₀ p q) ⊎ Parted (r + 1) (λ x y. told g ends (suc r) x y ≡ true) blocks₀ square blocks p q
            → Stage g ends (suc r) p q (entry square p q)
        now p q lp lq (inl u) =
            let was = L.stage p q lp lq in
            stage_next (λ s l. was.agrees s l ∙ rw u)
            (⊎_elim (λ l. inl (omega (arith, l, u))) (λ h. inr (u ∙ h)) was.known)
            (λ e. absurd (⊎_elim (λ l. omega (arith, l, e, u)) (λ h. omega (arith, h, e, u, fits)) was.known))
            (λ a la t. ⊎_elim (λ l. omega (arith, l, u))
            (λ h.
            let same = eqb-true (block blocks p) (block blocks q) (sym (P'.together p q lp lq) ∙ eq-eqb (entry square p q) never (u ∙ h)) in
            let l = by p q a lp lq la same t in
            omega (arith, l, u))
            was.known)
        now p q lp lq (inr h) =
            let e = h.at in
            let never₀ = eqb-true (entry square₀ p q) never (P.together p q lp lq ∙ eq-eqb (block blocks₀ p) (block blocks₀ q) h.were_one) in
            stage_next
            (λ s l. (L.stage p q lp lq).agrees s l ∙ lt-leb (entry square₀ p q) s (omega (arith, never₀, l, fits))
            ∙ sym (lt-leb (entry square p q) s (omega (arith, e, l))))
            (inl (omega (arith, e))) (λ _. h.why) (λ a la t. omega (arith, e))

  -- ---- the last round

  -- where no block is new, the square is finished
  pub refined_last : HasRows g.states square₀ → blocks₀.count ≤ old → Squared g ends square₀
  refined_last size none = stage_last square₀ L.stage closed at (omega (arith, fits)) size
    where
      at : (p q : ℕ) → p < g.states → q < g.states → entry square₀ p q ≡ r → ⊥
      at p q lp lq e =
          let a = P.below p lp in
          let b = P.below q lq in
          ⊎_elim (λ l. omega (arith, l, a, none)) (λ l. omega (arith, l, b, none)) (L.fresh p q lp lq e)
