-- What the place of a refusal means, proved of every body, trace, certificate and collection file, and of all that is handed to the writer.
use mathlib.Core.Path.{◌≡◌, refl, sym, ap, ◌∙◌, subst}
use mathlib.Core.Bool.{Bool, true, false, not, cond}
use mathlib.Core.List.{List, [], ◌∷◌, ◌++◌}
use mathlib.Core.Logic.{◌↔◌, inl, inr, ⊎_elim}
use Prim.Native.Nat.{ℕ, zero, suc, ◌+◌, ◌*◌, ◌-◌, ◌/◌, ◌%◌, ◌≤◌, ◌<◌, zero-le}
use native.Mathlib.Nat.{zero-add}
use native.Mathlib.Numerals.{add-one}
use native.Mathlib.Omega.{arith}
use lib.Dec.{eqb, leb}
use lib.ListN.{length, get_or, drop}
use lib.Seq.{get_or-take, get_or-drop}
use borrow.Author.Tests.{eqb-true, eqb-false, eq-eqb, ne_eqb, leb-true, le-leb, ltb-false, le-ltb, not-true, not-false}
use Rattle.theory.specs.Below.{first}
use Rattle.theory.specs.Lists.{In, any_in}
use Rattle.theory.specs.Answer.{Question, Answer, refused, answered, asks}
use Rattle.theory.specs.Monitor.{Monitor, WellFormed, reading, reached}
use Rattle.theory.specs.Distance.{faults_of}
use Rattle.theory.specs.Computed.{first_witness, first_misreading}
use Rattle.theory.specs.Certificate.{block_of, same_block, disagrees, read_alike, step_alike, parts, parted}
use Rattle.theory.proofs.Below.{clash, not_clash, and_left, and_right, and_both, any_find}
use Rattle.theory.proofs.Below.{first_is, first_le, first_below, first_here}
use Rattle.theory.proofs.Lists.{in_left, in_right, in_either, any_in_at, any_in_find, in_each, in_map}
use Rattle.theory.proofs.Answer.{asks_refused, asks_passed, asks_values, all_answered, no_refused}
use Rattle.theory.proofs.Exact.{reached_exact}
use Rattle.theory.proofs.Certificate.{disagrees_at, disagrees_by, step_at_lem}
use Rattle.monitor.specs.Format.{states_of, symbols_of, drawn_marks, nexts, monitor_of}
use Rattle.monitor.specs.Questions.{not_below, first_not_below, revokes, of_each, question6, question7, question8, head_questions, table_questions, judge_answer}
use Rattle.monitor.specs.Questions.{no_values, question9, question10, question11, question13}
use Rattle.monitor.proofs.Head.{Head, passed_head}
use Rattle.monitor.proofs.Body.{marks_length, nexts_length, all_below}
use Rattle.monitor.proofs.Revoking.{other_revokes}
use Rattle.monitor.proofs.Accepted.{accepted_table}
use Rattle.classes.specs.Classify.{classify_questions, classify_figures, classify_answer}
use Rattle.readings.specs.Readings.{step_figures, step_questions, step_answer, trace_figures, trace_questions, trace_answer}
use Rattle.immunity.specs.Findings.{table_figures, fault_questions, fault_answer, summary_figures, card_answer}
use Rattle.trust.specs.Trust.{trust_figures, trust_questions, trust_answer}
use Rattle.certificate.specs.Questions.{question14, question15, question16, question17, question18, certificate_questions, certificate_answer}
use Rattle.blocks.specs.Made.{blocks_questions, blocks_figures, blocks_answer}
use Rattle.collection.specs.Contents.{count_of, offset_of, length_of, rule_of, start_of_body, rises, follows, collection_questions, collection_answer}
use Rattle.collection.specs.Contents.{question20, question21, question22, question23, question24, question25}
use Rattle.collection.proofs.Entries.{rises_later}
use Rattle.collection.proofs.Placed.{next_start}
use Rattle.writer.specs.Writing.{given_rule, given_body, file_of, placed_at, body_questions, bodies_questions, question27, question28, write_questions, write_answer}
use Rattle.demands.proofs.Tables.{divided, revoking}
use Rattle.demands.specs.DemandOne.{AllYes}
use Rattle.demands.specs.Places.{FirstWrong, Means, NoMark, NoState, mark_byte, Revoked, TablePlaces, AsJudged, EachCall}
use Rattle.demands.specs.Places.{Disagrees, ReadApart, StepApart, Parted, certificate_asked, CertificatePlaces, NotGreater, Misplaced, Places}

-- ---- one question of a list

-- no question of the list has this number
abbrev Others : ℕ → List Question → Type 0
Others number qs = (p : Question) → In p qs → p.number ≡ number → ⊥

others : (number : ℕ) (qs : List Question) → any_in (λ (p : Question). eqb p.number number) qs ≡ false → Others number qs
others number qs e p i s = clash (any_in_at (λ (p : Question). eqb p.number number) qs i (eq-eqb p.number number s)) e

unnamed : {A : Type 0} (qs : List Question) (values : A) {number place : ℕ} → Others number qs → asks qs values ≡ refused number place → ⊥
unnamed [] values o e = let z : ◌≡◌ {A = ℕ} 0 1 = cc in omega arith
unnamed (q ∷ qs) values {number} {place} o e = go q.yes e (unnamed qs values (λ p i. o p (inr i)))
  where
    go : (b : Bool) → cond b (asks qs values) (refused q.number q.place) ≡ refused number place
        → (asks qs values ≡ refused number place → ⊥) → ⊥
    go true h rest = rest h
    go false h rest = o q (inl refl) (cc)

-- a refusal with the number of a question that no other has: those before it are answered yes, and it is answered no
named : {A : Type 0} (asked : List Question) (q : Question) (after : List Question) (values : A) {place : ℕ} → Others q.number asked
    → Others q.number after → asks (asked ++ (q ∷ after)) values ≡ refused q.number place → AllYes asked × (q.yes ≡ false) × (q.place ≡ place)
named [] q after values {place} o₁ o₂ e = go q.yes refl e
  where
    go : (b : Bool) → q.yes ≡ b → cond b (asks after values) (refused q.number q.place) ≡ refused q.number place
        → AllYes [] × (q.yes ≡ false) × (q.place ≡ place)
    go true p h = absurd (unnamed after values o₂ h)
    go false p h = (λ x i. absurd i, p, cc)
named (p ∷ ps) q after values {place} o₁ o₂ e = go p.yes refl e (named ps q after values (λ x i. o₁ x (inr i)) o₂)
  where
    go : (b : Bool) → p.yes ≡ b → cond b (asks (ps ++ (q ∷ after)) values) (refused p.number p.place) ≡ refused q.number place
        → (asks (ps ++ (q ∷ after)) values ≡ refused q.number place → AllYes ps × (q.yes ≡ false) × (q.place ≡ place))
        → AllYes (p ∷ ps) × (q.yes ≡ false) × (q.place ≡ place)
    go true y h rest = let r = rest h in (λ x. ⊎_elim (λ (s : x ≡ p). rw s y) (r.0 x), r.1, r.2)
    go false y h rest = absurd (o₁ p (inl refl) (cc))

-- ---- the first thing that is wrong

module _ (f : ℕ → Bool) (from c : ℕ) (Wrong : ℕ → Type 0) where
  -- the test tells which of c things are wrong
  abbrev Tells : Type 0
  Tells = (i : ℕ) → i < c → (f i ≡ true) ↔ Wrong (from + i)

  wrong_first : Tells → {place : ℕ} → eqb (first f 0 c) c ≡ false → from + first f 0 c ≡ place → FirstWrong from (from + c) Wrong place
  wrong_first t {place} found e =
      let l : first f 0 c < c = omega (arith, first_le f 0 c, eqb-false (first f 0 c) c found) in
      record {
        least = omega arith;
        most = omega arith;
        wrong = subst Wrong e ((t (first f 0 c) l).0 (first_here f 0 c (omega arith)));
        before = λ i a b w.
            let s : i ≡ from + (i - from) = omega arith in
            clash ((t (i - from) (omega arith)).1 (subst Wrong s w)) (first_below f 0 c (i - from) zero-le (omega arith));
      }

  first_wrong : Tells → {place : ℕ} → FirstWrong from (from + c) Wrong place → (eqb (first f 0 c) c ≡ false) × (from + first f 0 c ≡ place)
  first_wrong t {place} w =
      let s : place ≡ from + (place - from) = omega (arith, w.least) in
      let e = first_is f c 0 (place - from) zero-le (omega (arith, w.least, w.most))
      (λ j _ l. not_clash (λ h. w.before (from + j) (omega arith) (omega arith) ((t j (omega (arith, w.most))).0 h)))
      (λ _. (t (place - from) (omega (arith, w.least, w.most))).1 (subst Wrong s w.wrong)) in
      (ne_eqb (first f 0 c) c (λ h. omega (arith, w.least, w.most)), omega (arith, w.least))

-- one law for all: the place of a question that is asked of each of c things
means : {A : Type 0} (asked after : List Question) (f : ℕ → Bool) (number from c end : ℕ) (Wrong : ℕ → Type 0) (values : A) → Others number asked
    → Others number after → (AllYes asked → (from + c ≡ end) × Tells f from c Wrong) → (place : ℕ)
    → (asks (asked ++ (of_each number from (first f 0 c) c ∷ after)) values ≡ refused number place) ↔ (AllYes asked × FirstWrong from end Wrong place)
means asked after f number from c end Wrong values o₁ o₂ t place = (
  λ e.
      let r = named asked (of_each number from (first f 0 c) c) after values o₁ o₂ e in
      let u = t r.0 in
      (r.0, subst (λ (x : ℕ). FirstWrong from x Wrong place) u.0 (wrong_first f from c Wrong u.1 r.1 r.2)),
  λ p.
      let u = t p.0 in
      let r = first_wrong f from c Wrong u.1 (subst (λ (x : ℕ). FirstWrong from x Wrong place) (sym u.0) p.1) in
      no_refused asked (of_each number from (first f 0 c) c) after values p.0 r.0 ∙ ap (refused number) r.1,
)

-- the same of things that count from 0
means_0 : {A : Type 0} (asked after : List Question) (f : ℕ → Bool) (number c end : ℕ) (Wrong : ℕ → Type 0) (values : A) → Others number asked
    → Others number after → (AllYes asked → (c ≡ end) × ((i : ℕ) → i < c → (f i ≡ true) ↔ Wrong i)) → (place : ℕ)
    → (asks (asked ++ (of_each number 0 (first f 0 c) c ∷ after)) values ≡ refused number place) ↔ (AllYes asked × FirstWrong 0 end Wrong place)
means_0 asked after f number c end Wrong values o₁ o₂ t =
    means asked after f number 0 c end Wrong values o₁ o₂
    (λ all.
    let u = t all in
    (zero-add c ∙ u.0, λ i l. subst (λ (x : ℕ). (f i ≡ true) ↔ Wrong x) (sym (zero-add i)) (u.1 i l)))

-- ---- a table

module _ (limit : ℕ) (b : List ℕ) where
  head_of : (more : List Question) → AllYes (head_questions limit b ++ more) → Head limit b
  head_of more all =
      passed_head limit b (all_answered (head_questions limit b) no_values (λ q i. all q (in_left q (head_questions limit b) more i)))

  -- a mark and a next state, by their bytes
  mark_byte_lem : (q : ℕ) → q < states_of b → get_or (drawn_marks b) q 0 ≡ mark_byte b q
  mark_byte_lem q l = get_or-take (states_of b) (drop 3 b) q 0 l ∙ get_or-drop 3 b q 0

  next_byte : (i : ℕ) → get_or (nexts b) i 0 ≡ get_or b (3 + states_of b + i) 0
  next_byte i = get_or-drop (3 + states_of b) b i 0

  marks_mean : Means (judge_answer limit b) (table_questions limit b) 6 3 (3 + states_of b) (NoMark b)
  unfolding judge_answer any_in
  marks_mean =
      means (head_questions limit b) (question7 b ∷ question8 b ∷ []) (not_below 3 (drawn_marks b)) 6 3 (length (drawn_marks b)) (3 + states_of b) (NoMark b)
      no_values (others 6 (head_questions limit b) refl) (others 6 (question7 b ∷ question8 b ∷ []) refl)
      (λ all.
      let h = head_of [] all in
      (ap (λ (x : ℕ). 3 + x) (marks_length h), λ i l. told i (omega (arith, marks_length h, l))))
    where
      told : (i : ℕ) → i < states_of b → (not_below 3 (drawn_marks b) i ≡ true) ↔ NoMark b (3 + i)
      told i l = rw (mark_byte_lem i l) (
        (λ e. let g = leb-true 3 (mark_byte b i) e in (λ s. omega arith, λ s. omega arith, λ s. omega arith)),
        (λ n. le-leb 3 (mark_byte b i) (omega (arith, n.0, n.1, n.2))),
      )

  nexts_mean : Means (judge_answer limit b) (table_questions limit b) 7 (3 + states_of b) (length b) (NoState b)
  unfolding judge_answer any_in
  nexts_mean =
      let asked = head_questions limit b ++ (question6 b ∷ []) in
      means asked (question8 b ∷ []) (not_below (states_of b) (nexts b)) 7 (3 + states_of b) (length (nexts b)) (length b) (NoState b) no_values
      (others 7 asked refl) (others 7 (question8 b ∷ []) refl)
      (λ all.
      let h = head_of (question6 b ∷ []) all in
      (omega (arith, nexts_length h, h.exact), λ i l. rw (next_byte i) (leb-true (states_of b) _, le-leb (states_of b) _)))

  module _ (h : Head limit b) (inside : first_not_below (states_of b) (nexts b) ≡ length (nexts b)) (i : ℕ) (l : i < length (nexts b)) where
    next_in : get_or (nexts b) i 0 < states_of b
    next_in = all_below (states_of b) (nexts b) inside i l

    next_mark : get_or (drawn_marks b) (get_or (nexts b) i 0) 0 ≡ mark_byte b (get_or b (3 + states_of b + i) 0)
    next_mark = mark_byte_lem (get_or (nexts b) i 0) next_in ∙ ap (mark_byte b) (next_byte i)

    revoked : revokes (drawn_marks b) (nexts b) (symbols_of b) i ≡ true → Revoked b (3 + states_of b + i)
    revoked e =
        let d = divided h i l in
        let r = revoking (drawn_marks b) (nexts b) (symbols_of b) i e in
        let mark = mark_byte_lem (i / symbols_of b) d.0 in
        record {
          state = i / symbols_of b;
          message = i % symbols_of b;
          state_in = d.0;
          message_in = d.1;
          place = omega (arith, d.2);
          marked = omega (arith, r.0, mark);
          otherwise = λ s. r.1 (next_mark ∙ s ∙ sym mark);
        }

    revokes_it : Revoked b (3 + states_of b + i) → revokes (drawn_marks b) (nexts b) (symbols_of b) i ≡ true
    revokes_it r =
        let q = r.state in
        let at : i ≡ q * symbols_of b + r.message = omega (arith, r.place) in
        other_revokes (drawn_marks b) (nexts b) q (symbols_of b) (omega arith) (omega (arith, r.message_in))
        (λ s. omega (arith, r.marked, mark_byte_lem q r.state_in))
        (λ s. r.otherwise (sym next_mark ∙ s ∙ mark_byte_lem q r.state_in))

  kept_mean : Means (judge_answer limit b) (table_questions limit b) 8 (3 + states_of b) (length b) (Revoked b)
  unfolding judge_answer any_in
  kept_mean =
      let more = question6 b ∷ question7 b ∷ [] in
      let asked = head_questions limit b ++ more in
      means asked [] (revokes (drawn_marks b) (nexts b) (symbols_of b)) 8 (3 + states_of b) (length (nexts b)) (length b) (Revoked b) no_values
      (others 8 asked refl) (others 8 [] refl)
      (λ all.
      let h = head_of more all in
      let seven = eqb-true (first_not_below (states_of b) (nexts b)) (length (nexts b))
      (all (question7 b) (in_right (question7 b) (head_questions limit b) more (inr (inl refl)))) in
      (omega (arith, nexts_length h, h.exact), λ i l. (revoked h seven i l, revokes_it h seven i l)))

  table_places : TablePlaces limit b
  table_places = record { marks = marks_mean; nexts = nexts_mean; kept = kept_mean }

  -- a call that asks 1 to 8 and then questions with greater numbers is refused with a number up to 8 as judging is
  as_judged : {A : Type 0} (more : List Question) (values : A) → any_in (λ (p : Question). leb p.number 8) more ≡ false
      → AsJudged limit b (asks (table_questions limit b ++ more) values)
  unfolding judge_answer
  as_judged {A} more values later number place l = (
    λ e. go (asks (table_questions limit b) no_values) refl e,
    λ e. asks_refused (table_questions limit b) more values no_values e,
  )
    where
      large : Others number more
      large p i s = clash (any_in_at (λ (p : Question). leb p.number 8) more i (le-leb p.number 8 (omega arith))) later

      go : (a : Answer (List ℕ)) → asks (table_questions limit b) no_values ≡ a → asks (table_questions limit b ++ more) values ≡ refused number place
          → asks (table_questions limit b) no_values ≡ refused number place
      go (refused x y) h e = h ∙ swapped (sym (asks_refused (table_questions limit b) more values no_values h) ∙ e)
        where
          swapped : ◌≡◌ {A = Answer A} (refused x y) (refused number place) → ◌≡◌ {A = Answer (List ℕ)} (refused x y) (refused number place)
          swapped s = (let p : x ≡ number = cc in let q : y ≡ place = cc in rw (p, q))
      go (answered given) h e =
          let none = h ∙ ap answered (sym (asks_values (table_questions limit b) no_values h)) in
          absurd (unnamed more values large (sym (asks_passed (table_questions limit b) more values no_values none) ∙ e))

  each_call : EachCall limit b
  unfolding classify_answer step_answer trace_answer fault_answer trust_answer certificate_answer blocks_answer card_answer any_in
  each_call =
      let m = monitor_of b in
      record {
        classes = λ room. as_judged (classify_questions room m) (classify_figures m) refl;
        step = λ d q a. as_judged (step_questions d q a m) (step_figures d q a m) refl;
        trace = λ d w. as_judged (trace_questions d w m) (trace_figures d w m) refl;
        faults = λ set d room. as_judged (fault_questions set d (first_witness m d set) room) (table_figures m d set) refl;
        trusts = λ set d v room. as_judged (trust_questions set d v (first_misreading m d set v) room) (trust_figures m d set v) refl;
        certificate = λ set d c. as_judged (certificate_questions set d c m) no_values refl;
        blocks = λ d room. as_judged (blocks_questions d room m) (blocks_figures m) refl;
        card = as_judged [] (summary_figures m) refl;
      }

  -- ---- a trace and a step

  trace_means : (d : ℕ) (w : List ℕ)
      → Means (trace_answer limit b d w) (table_questions limit b ++ trace_questions d w (monitor_of b)) 12 0 (length w) (λ i. symbols_of b ≤ get_or w i 0)
  unfolding trace_answer any_in
  trace_means d w =
      let asked = table_questions limit b ++ (question10 d ∷ []) in
      let k = symbols_of b in
      means_0 asked [] (not_below k w) 12 (length w) (length w) (λ i. k ≤ get_or w i 0) (trace_figures d w (monitor_of b)) (others 12 asked refl) (others 12 [] refl)
      (λ _. (refl, λ i _. (leb-true k (get_or w i 0), le-leb k (get_or w i 0))))

  step_means : (d q a : ℕ)
      → Means (step_answer limit b d q a) (table_questions limit b ++ step_questions d q a (monitor_of b)) 12 0 1 (λ i. symbols_of b ≤ a)
  unfolding step_answer any_in
  step_means d q a =
      let asked = table_questions limit b ++ (question10 d ∷ question11 (states_of b) q ∷ []) in
      let k = symbols_of b in
      means_0 asked [] (not_below k (a ∷ [])) 12 1 1 (λ i. k ≤ a) (step_figures d q a (monitor_of b)) (others 12 asked refl) (others 12 [] refl)
      (λ _. (refl, λ i l. (let z : i ≡ 0 = omega arith in rw z (leb-true k a, le-leb k a))))

  -- ---- a certificate

  module _ (set d : ℕ) (c : List ℕ) where
    abbrev m : Monitor
    m = monitor_of b

    abbrev n : ℕ
    n = states_of b

    abbrev nine : List Question
    nine = question9 set ∷ question10 d ∷ question14 n c ∷ []

    accepted_of : (more : List Question) → AllYes (table_questions limit b ++ more) → judge_answer limit b ≡ answered []
    unfolding judge_answer
    accepted_of more all = all_answered (table_questions limit b) no_values (λ q i. all q (in_left q (table_questions limit b) more i))

    numbers_mean : Means (certificate_answer limit b set d c) (certificate_asked limit b set d c) 15 0 n (λ q. n ≤ block_of c q)
    unfolding certificate_answer any_in
    numbers_mean =
        let asked = table_questions limit b ++ nine in
        let after = question16 m d c ∷ question17 m c ∷ question18 m set c ∷ [] in
        means_0 asked after (not_below n c) 15 (length c) n (λ q. n ≤ block_of c q) no_values (others 15 asked refl) (others 15 after refl)
        (λ all.
        let size = eqb-true (length c) n (all (question14 n c) (in_right (question14 n c) (table_questions limit b) nine (inr (inr (inl refl))))) in
        (size, λ q _. (leb-true n (block_of c q), le-leb n (block_of c q))))

    -- a state that disagrees with a lower one of its block, by any test of agreement
    disagree : (agree : ℕ → ℕ → Bool) (Apart : ℕ → ℕ → Type 0) → ((p q : ℕ) → (agree p q ≡ false) ↔ Apart p q) → (q : ℕ)
        → (disagrees agree c q ≡ true) ↔ Disagrees c Apart q
    disagree agree Apart same q = (
      λ e. (let r = disagrees_by agree c q e in record { lower = r.0; is_lower = r.1; one_block = r.2; apart = (same r.0 q).0 r.3 }),
      λ r. disagrees_at agree c r.lower q r.is_lower r.one_block ((same r.lower q).1 r.apart),
    )

    readings_mean : Means (certificate_answer limit b set d c) (certificate_asked limit b set d c) 16 0 n (Disagrees c (ReadApart m d))
    unfolding certificate_answer any_in
    readings_mean =
        let asked = table_questions limit b ++ (question9 set ∷ question10 d ∷ question14 n c ∷ question15 n c ∷ []) in
        let after = question17 m c ∷ question18 m set c ∷ [] in
        means_0 asked after (disagrees (read_alike m d) c) 16 n n (Disagrees c (ReadApart m d)) no_values (others 16 asked refl) (others 16 after refl)
        (λ _. (
          refl,
          λ q _. disagree (read_alike m d) (ReadApart m d)
              (λ p q. (eqb-false (reading m d p) (reading m d q), ne_eqb (reading m d p) (reading m d q))) q,
        ))

    step_apart : (p q : ℕ) → (step_alike m.automaton c p q ≡ false) ↔ StepApart m c p q
    step_apart p q = (
      λ e.
          let g = m.automaton in
          let r = any_find g.symbols (λ a. not (same_block c (g.next p a) (g.next q a))) (not-false _ e) in
          let x = block_of c (g.next p r.0) in
          let y = block_of c (g.next q r.0) in
          (r.0, r.1, eqb-false x y (not-true (eqb x y) r.2)),
      λ r. not_clash (λ t. r.2 (step_at_lem m.automaton c p q t r.0 r.1)),
    )

    messages_mean : Means (certificate_answer limit b set d c) (certificate_asked limit b set d c) 17 0 n (Disagrees c (StepApart m c))
    unfolding certificate_answer any_in
    messages_mean =
        let asked = table_questions limit b ++ (question9 set ∷ question10 d ∷ question14 n c ∷ question15 n c ∷ question16 m d c ∷ []) in
        let agree = step_alike m.automaton c in
        means_0 asked (question18 m set c ∷ []) (disagrees agree c) 17 n n (Disagrees c (StepApart m c)) no_values
        (others 17 asked refl) (others 17 (question18 m set c ∷ []) refl)
        (λ _. (refl, λ q _. disagree agree (StepApart m c) step_apart q))

    faults_mean : Means (certificate_answer limit b set d c) (certificate_asked limit b set d c) 18 0 n (Parted m set c)
    unfolding certificate_answer any_in
    faults_mean =
        let more = question9 set ∷ question10 d ∷ question14 n c ∷ question15 n c ∷ question16 m d c ∷ question17 m c ∷ [] in
        let asked = table_questions limit b ++ more in
        means_0 asked [] (parted m set c) 18 n n (Parted m set c) no_values (others 18 asked refl) (others 18 [] refl)
        (λ all. (refl, λ p _. told (accepted_table limit b (accepted_of more all)).well_formed p))
      where
        told : WellFormed limit m → (p : ℕ) → (parted m set c p ≡ true) ↔ Parted m set c p
        told w p = (
          λ e.
              let g = m.automaton in
              let r = any_in_find (parts g c p) (faults_of m set) (and_right (reached m p) (any_in (parts g c p) (faults_of m set)) e) in
              record {
                reachable = (reached_exact w p).0 (and_left (reached m p) (any_in (parts g c p) (faults_of m set)) e);
                step = r.0;
                known = r.1;
                apart = eqb-false _ _ (not-true _ r.2);
              },
          λ r. and_both (reached m p) (any_in (parts m.automaton c p) (faults_of m set)) ((reached_exact w p).1 r.reachable)
              (any_in_at (parts m.automaton c p) (faults_of m set) r.known (ap not (ne_eqb _ _ r.apart))),
        )

    certificate_places : CertificatePlaces limit b set d c
    certificate_places = record { numbers = numbers_mean; readings = readings_mean; messages = messages_mean; faults = faults_mean }

-- ---- a collection, read and written

not_greater : (rule : ℕ → ℕ) (i : ℕ) → (not (rises rule i) ≡ true) ↔ NotGreater rule i
not_greater rule zero = (λ e. clash e refl, λ z. absurd z)
not_greater rule (suc i) =
    let back : suc i - 1 ≡ i = omega arith in
    let e = rises_later rule (suc i) (λ (z : suc i ≡ 0). omega arith) (ap rule (sym back)) refl in
    rw (← e) (λ h. ltb-false (rule i) (rule (suc i)) (not-true _ h), λ l. ap not (le-ltb (rule i) (rule (suc i)) l))

misplaced : (file : List ℕ) (i : ℕ) → (not (follows file i) ≡ true) ↔ Misplaced file i
misplaced file i = (λ e. turned i (eqb-false _ _ (not-true _ e)), λ h. ap not (ne_eqb _ _ (back i h)))
  where
    starts : (i : ℕ) → start_of_body file (suc i) ≡ offset_of file i + length_of file i
    starts i = subst (λ (x : ℕ). start_of_body file x ≡ offset_of file i + length_of file i) (add-one i) (next_start file i)

    turned : (i : ℕ) → (offset_of file i ≡ start_of_body file i → ⊥) → Misplaced file i
    turned zero h = h
    turned (suc i) h = λ s. h (s ∙ sym (starts i))

    back : (i : ℕ) → Misplaced file i → offset_of file i ≡ start_of_body file i → ⊥
    back zero h = h
    back (suc i) h = λ s. h (s ∙ starts i)

module _ (file : List ℕ) where
  abbrev c : ℕ
  c = count_of file

  rules_mean : Means (collection_answer file) (collection_questions file) 23 0 c (NotGreater (rule_of file))
  unfolding collection_answer any_in
  rules_mean =
      let asked = question20 file ∷ question21 c ∷ question22 file ∷ [] in
      let after = question24 file ∷ question25 file ∷ [] in
      let wrong : ℕ → Bool = λ i. not (rises (rule_of file) i) in
      means_0 asked after wrong 23 c c (NotGreater (rule_of file)) (c ∷ []) (others 23 asked refl) (others 23 after refl)
      (λ _. (refl, λ i _. not_greater (rule_of file) i))

  bodies_mean : Means (collection_answer file) (collection_questions file) 24 0 c (Misplaced file)
  unfolding collection_answer any_in
  bodies_mean =
      let asked = question20 file ∷ question21 c ∷ question22 file ∷ question23 (rule_of file) c ∷ [] in
      let after = question25 file ∷ [] in
      let wrong : ℕ → Bool = λ i. not (follows file i) in
      means_0 asked after wrong 24 c c (Misplaced file) (c ∷ []) (others 24 asked refl) (others 24 after refl)
      (λ _. (refl, λ i _. misplaced file i))

module _ (limit : ℕ) (rules lengths bodies : List ℕ) (room : ℕ) where
  -- the questions about bodies are numbered 1 to 8
  others_bodies : (c : ℕ) → Others 23 (bodies_questions limit lengths bodies c)
  unfolding any_in
  others_bodies c p i e =
      let r = in_each p c (λ j. body_questions limit (given_body lengths bodies j) j) i in
      let body = given_body lengths bodies r.index in
      let o = in_map (placed_at r.index) p (table_questions limit body) r.here in
      others 23 (table_questions limit body) refl o.origin o.inside (ap (λ (q : Question). q.number) (sym o.is) ∙ e)

  given_mean : Means (write_answer limit rules lengths bodies room) (write_questions limit rules lengths bodies room) 23 0 (length rules)
      (NotGreater (given_rule rules))
  unfolding write_answer any_in
  given_mean =
      let c = length rules in
      let asked = question27 rules lengths ∷ question21 c ∷ [] in
      let last = question13 (length (file_of rules lengths bodies)) room ∷ [] in
      let wrong : ℕ → Bool = λ i. not (rises (given_rule rules) i) in
      means_0 asked (question28 lengths bodies ∷ (bodies_questions limit lengths bodies c ++ last)) wrong 23 c c (NotGreater (given_rule rules))
      (length (file_of rules lengths bodies) ∷ []) (others 23 asked refl)
      (λ p. ⊎_elim (λ (s : p ≡ question28 lengths bodies). others 23 (question28 lengths bodies ∷ []) refl p (inl s))
      (λ i. ⊎_elim (others_bodies c p) (others 23 last refl p) (in_either p (bodies_questions limit lengths bodies c) last i)))
      (λ _. (refl, λ i _. not_greater (given_rule rules) i))

pub places : (limit : ℕ) (b file : List ℕ) → Places limit b file
places limit b file = record {
  table = table_places limit b;
  calls = each_call limit b;
  trace = trace_means limit b;
  step = step_means limit b;
  certificate = certificate_places limit b;
  rules = rules_mean file;
  bodies = bodies_mean file;
  given_rules = given_mean limit;
}
