-- Demand 1, proved of every body, every collection file, every area, and all that is handed to the writer.
use mathlib.Core.Path.{◌≡◌, refl, sym, ap, ◌∙◌}
use mathlib.Core.Bool.{Bool, true, false, cond}
use mathlib.Core.List.{List, [], ◌∷◌, ◌++◌}
use mathlib.Core.Logic.{inl, ⊎_elim}
use Prim.Native.Nat.{ℕ, zero, suc, ◌<◌}
use native.Mathlib.Omega.{arith}
use lib.ListN.{length, get_or, length-append}
use lib.Seq.{get_or_at}
use borrow.Author.Tests.{leb-true}
use Rattle.theory.specs.Lists.{each}
use Rattle.theory.specs.Answer.{Question, Answer, refused, answered, asks}
use Rattle.theory.specs.Monitor.{class}
use Rattle.theory.specs.Faults.{kinds}
use Rattle.theory.specs.Certificate.{lowest_alike, made_blocks}
use Rattle.theory.proofs.Lists.{in_right, each_at}
use Rattle.theory.proofs.Answer.{asks_values, untouched, all_answered, answered_all, no_refused}
use Rattle.theory.proofs.Values.{length_values}
use Rattle.monitor.specs.Format.{states_of, monitor_of}
use Rattle.monitor.specs.Questions.{table_questions, judge_answer, question9, question10, question13, question19}
use Rattle.collection.specs.Contents.{count_of, collection_questions, collection_answer}
use Rattle.writer.specs.Writing.{file_of, given_questions, write_answer}
use Rattle.classes.specs.Classify.{class_list, classify_figures, classify_answer}
use Rattle.readings.specs.Readings.{step_questions, step_figures, step_answer, trace_questions, trace_figures, trace_answer}
use Rattle.immunity.specs.Findings.{table_figures, fault_answer, fault_trace, summary_figures, column_figures, card_answer}
use Rattle.trust.specs.Trust.{trust_figures, trust_answer, trust_trace}
use Rattle.certificate.specs.Questions.{certificate_questions, certificate_answer}
use Rattle.blocks.specs.Made.{blocks_figures, blocks_answer}
use Rattle.lines.specs.Line.{rule_line, line_answer}
use Rattle.listing_text.specs.Listing.{listing_text, listing_answer}
use Rattle.demands.specs.DemandOne.{FirstNo, Judged, Lent, column_of, DemandOne}

-- a refusal is the first no
first_no_lem : {A : Type 0} (qs : List Question) (values : A) {number place : ℕ} → asks qs values ≡ refused number place → FirstNo qs number place
first_no_lem [] values e = absurd (let z : ◌≡◌ {A = ℕ} 0 1 = cc in omega arith)
first_no_lem (q ∷ qs) values {number} {place} e = go q.yes refl e (first_no_lem qs values)
  where
    go : (b : Bool) → q.yes ≡ b → cond b (asks qs values) (refused q.number q.place) ≡ refused number place
        → (asks qs values ≡ refused number place → FirstNo qs number place) → FirstNo (q ∷ qs) number place
    go true p h rest =
        let f = rest h in
        record {
          before = q ∷ f.before;
          asked = f.asked;
          after = f.after;
          in_order = ap (λ (r : List Question). q ∷ r) f.in_order;
          before_yes = λ x. ⊎_elim (λ (s : x ≡ q). rw s p) (f.before_yes x);
          asked_no = f.asked_no;
          its_number = f.its_number;
          its_place = f.its_place;
        }
    go false p h rest = record {
      before = [];
      asked = q;
      after = qs;
      in_order = refl;
      before_yes = λ x i. absurd i;
      asked_no = p;
      its_number = cc;
      its_place = cc;
    }

-- every call that asks is answered so
pub asks_judged : {A : Type 0} (qs : List Question) (values : A) → Judged qs values (asks qs values)
asks_judged qs values = record {
  accepts = (answered_all qs values, all_answered qs values);
  refuses = λ number place. (
    first_no_lem qs values,
    λ f. rw (f.in_order, ← f.its_number, ← f.its_place) (no_refused f.before f.asked f.after values f.before_yes f.asked_no),
  );
}

-- one whose last question asks for room, too
asks_lent : {A : Type 0} (front : List Question) (values : A) (bytes area : List ℕ) (size : ℕ) → size ≡ length bytes
    → Lent (front ++ (question13 size (length area) ∷ [])) values (asks (front ++ (question13 size (length area) ∷ [])) values) bytes area
asks_lent {A} front values bytes area size same = record {
  judged = asks_judged qs values;
  untouched = λ number place e. sym (untouched bytes area e);
  short = go (asks qs values) refl;
}
  where
    qs : List Question
    qs = front ++ (question13 size (length area) ∷ [])

    go : (a : Answer A) → asks qs values ≡ a → length area < length bytes → (number : ℕ) × (place : ℕ) × (a ≡ refused number place)
    go (refused number place) e l = (number, place, refl)
    go (answered given) e l =
        let q = question13 size (length area) in
        let all = answered_all qs values (e ∙ ap answered (sym (asks_values qs values e))) in
        let fits = leb-true size (length area) (all q (in_right q front (q ∷ []) (inl refl))) in
        absurd (omega arith)

-- ---- the columns of a card

module _ {A : Type 0} (f : ℕ → A) where
  -- one of each
  pub each_one : (n : ℕ) → length (each n (λ i. f i ∷ [])) ≡ n
  unfolding each
  each_one zero = refl
  each_one (suc n) = length-append (each n (λ i. f i ∷ [])) (f n ∷ []) ∙ omega (arith, each_one n)

  pub one_at : (n c : ℕ) (else : A) → c < n → get_or (each n (λ i. f i ∷ [])) c else ≡ f c
  one_at n c else l =
      let r = each_at c n (λ i. f i ∷ []) l in
      ap (λ (xs : List A). get_or xs c else) r.1 ∙ get_or_at (each c (λ i. f i ∷ [])) (f c) r.0 else c (each_one c)

-- the summary asks 1 to 8 and answers its figures, and so does the column of rank c
pub summary_asks : (limit : ℕ) (body : List ℕ) → (card_answer limit body).summary ≡ asks (table_questions limit body) (summary_figures (monitor_of body))
unfolding card_answer
summary_asks limit body = refl

pub column_asks : (limit : ℕ) (body : List ℕ) (c : ℕ) → c < kinds
    → column_of (card_answer limit body) c ≡ asks (table_questions limit body) (column_figures c (monitor_of body))
unfolding card_answer
column_asks limit body c l = one_at (λ i. asks (table_questions limit body) (column_figures i (monitor_of body))) kinds c (refused 0 0) l

-- writing the listing asks for room alone
listing_lent : (limit : ℕ) (file area : List ℕ)
    → Lent (question13 (length (listing_text limit file)) (length area) ∷ []) (length (listing_text limit file) ∷ []) (listing_answer limit file (length area))
    (listing_text limit file) area
unfolding listing_answer
listing_lent limit file area = asks_lent [] (length (listing_text limit file) ∷ []) (listing_text limit file) area _ refl

pub demand_one : (limit : ℕ) (body file area : List ℕ) → DemandOne limit body file area
unfolding judge_answer collection_answer classify_answer step_answer trace_answer fault_answer trust_answer certificate_answer blocks_answer line_answer write_answer
demand_one limit body file area =
    let m = monitor_of body in
    let table = table_questions limit body in
    record {
      table = asks_judged table [];
      step = λ d q a. asks_judged (table ++ step_questions d q a m) (step_figures d q a m);
      trace = λ d w. asks_judged (table ++ trace_questions d w m) (trace_figures d w m);
      certificate = λ set d c. asks_judged (table ++ certificate_questions set d c m) [];
      summary = rw (summary_asks limit body) (asks_judged table (summary_figures m));
      column = λ c l. rw (column_asks limit body c l) (asks_judged table (column_figures c m));
      collection = asks_judged (collection_questions file) (count_of file ∷ []);
      classes = asks_lent table (classify_figures m) (class_list m) area (states_of body) (sym (length_values (states_of body) (class m)));
      faults = λ set d. asks_lent (table ++ (question9 set ∷ question10 d ∷ [])) (table_figures m d set) (fault_trace body set d) area _ refl;
      trusts = λ set d v.
          asks_lent (table ++ (question9 set ∷ question10 d ∷ question19 d v ∷ [])) (trust_figures m d set v) (trust_trace body set d v) area _ refl;
      blocks = λ d. asks_lent (table ++ (question10 d ∷ [])) (blocks_figures m) (made_blocks m d) area (states_of body)
          (sym (length_values (states_of body) (lowest_alike m d)));
      line = λ rule. asks_lent [] (length (rule_line limit rule body) ∷ []) (rule_line limit rule body) area _ refl;
      listing = listing_lent limit file area;
      writer = λ rules lengths bodies. asks_lent (given_questions limit rules lengths bodies) (length (file_of rules lengths bodies) ∷ [])
          (file_of rules lengths bodies) area _ refl;
    }
