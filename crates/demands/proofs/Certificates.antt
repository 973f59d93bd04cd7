-- Certificates, proved of every accepted table, every fault set and both readings.
use mathlib.Core.Path.{◌≡◌, refl, sym, ◌∙◌, subst}
use mathlib.Core.Bool.{true}
use mathlib.Core.List.{List, [], ◌∷◌}
use mathlib.Core.Logic.{◌⊎◌, inl, inr, ⊎_elim}
use mathlib.Core.Option.{none}
use Prim.Native.Nat.{ℕ, ◌≤◌}
use native.Mathlib.Omega.{arith}
use lib.Dec.{eqb}
use lib.ListN.{length}
use borrow.Author.Tests.{eqb-true, eq-eqb, leb-true, le-leb}
use Rattle.theory.specs.Lists.{In}
use Rattle.theory.specs.Answer.{Question, answered, asks}
use Rattle.theory.specs.Below.{first}
use Rattle.theory.specs.Monitor.{Monitor, WellFormed, reading}
use Rattle.theory.specs.Faults.{all_faults}
use Rattle.theory.specs.Certificate.{Certificate, disagrees, read_alike, step_alike, parted, NeverApart, made_blocks}
use Rattle.theory.proofs.Below.{or_cases}
use Rattle.theory.proofs.Answer.{answered_all}
use Rattle.theory.proofs.Certificate.{equal_numbers, steps_equal, step_at_lem, step_all, none_disagrees, agree_none, none_parted, agree_unparted, valid_immune}
use Rattle.theory.proofs.Certificate.{lowest_never, lowest_least, made_block, made_valid}
use Rattle.monitor.specs.Format.{states_of, monitor_of}
use Rattle.monitor.specs.Questions.{first_not_below, judge_answer, no_values, question9, question10}
use Rattle.monitor.proofs.Accepted.{accepted_table, accepted_asks}
use Rattle.monitor.proofs.Body.{all_below, below_all}
use Rattle.immunity.specs.Findings.{fault_answer}
use Rattle.certificate.specs.Questions.{question14, question15, question16, question17, question18, certificate_questions, certificate_answer}
use Rattle.blocks.specs.Made.{blocks_questions, blocks_figures, blocks_answer}
use Rattle.demands.specs.DemandTwo.{Askable}
use Rattle.demands.specs.Certificates.{Certificates}
use Rattle.demands.proofs.DemandTwo.{known, demand_two}

module _ (limit : ℕ) (b : List ℕ) (e : judge_answer limit b ≡ answered []) (set d : ℕ) where
  abbrev m : Monitor
  m = monitor_of b

  abbrev n : ℕ
  n = states_of b

  w : WellFormed limit m
  w = (accepted_table limit b e).well_formed

  module _ (c : List ℕ) where
    -- the questions that are left of an accepted body
    left : certificate_answer limit b set d c ≡ asks (certificate_questions set d c m) no_values
    unfolding certificate_answer
    left = accepted_asks limit b (certificate_questions set d c m) no_values e

    -- all are answered yes of one that is accepted
    all_yes : certificate_answer limit b set d c ≡ answered no_values → (q : Question) → In q (certificate_questions set d c m) → q.yes ≡ true
    all_yes a = answered_all (certificate_questions set d c m) no_values (sym left ∙ a)

    valid : certificate_answer limit b set d c ≡ answered no_values → Certificate m d set c
    valid a = record {
      size = size;
      below = λ q l. all_below n c (eqb-true (first_not_below n c) (length c) (all (question15 n c) (inr (inr (inr (inl refl)))))) q (omega (arith, size, l));
      readings = λ p q lp lq same. eqb-true (reading m d p) (reading m d q) (none_disagrees (read_alike m d) c (equal_numbers (reading m d)) n
          (place (first (disagrees (read_alike m d) c) 0 n) (all (question16 m d c) (inr (inr (inr (inr (inl refl))))))) p q lp lq same);
      messages = λ p q a lp lq la same. step_at_lem m.automaton c p q (none_disagrees (step_alike m.automaton c) c (steps_equal m.automaton c) n
          (place (first (disagrees (step_alike m.automaton c) c) 0 n) (all (question17 m c) (inr (inr (inr (inr (inr (inl refl)))))))) p q lp lq same) a la;
      faults = none_parted w set c (place (first (parted m set c) 0 n) (all (question18 m set c) (inr (inr (inr (inr (inr (inr (inl refl)))))))));
    }
      where
        all : (q : Question) → In q (certificate_questions set d c m) → q.yes ≡ true
        all = all_yes a

        size : length c ≡ n
        size = eqb-true (length c) n (all (question14 n c) (inr (inr (inl refl))))

        place : (x : ℕ) → eqb x n ≡ true → x ≡ n
        place x = eqb-true x n

    accepted : Askable set d → Certificate m d set c → certificate_answer limit b set d c ≡ answered no_values
    accepted a v = left ∙ rw (le-leb set all_faults a.set_most, known d a.reading_known, eq-eqb (length c) n v.size, numbers, equal, joined, together)
      where
        numbers : eqb (first_not_below n c) (length c) ≡ true
        numbers = eq-eqb (first_not_below n c) (length c) (below_all n c (λ q l. v.below q (omega (arith, v.size, l))))

        equal : eqb (first (disagrees (read_alike m d) c) 0 n) n ≡ true
        equal = eq-eqb _ n (agree_none (read_alike m d) c n
            (λ p q lp lq s. eq-eqb (reading m d p) (reading m d q) (v.readings p q lp lq s)))

        joined : eqb (first (disagrees (step_alike m.automaton c) c) 0 n) n ≡ true
        joined = eq-eqb _ n (agree_none (step_alike m.automaton c) c n
            (λ p q lp lq s. step_all m.automaton c p q (λ a la. v.messages p q a lp lq la s)))

        together : eqb (first (parted m set c) 0 n) n ≡ true
        together = eq-eqb _ n (agree_unparted w set c v.faults)

  said : (c : List ℕ) (room : ℕ) → certificate_answer limit b set d c ≡ answered no_values → fault_answer limit b set d room ≡ answered none
  said c room a = ((demand_two limit b e set d room).immune_exactly asked).1 (valid_immune w (valid c a))
    where
      asked : Askable set d
      asked = record {
        set_most = leb-true set all_faults (all_yes c a (question9 set) (inl refl));
        reading_known = ⊎_elim (λ h. inl (eqb-true d 3 h)) (λ h. inr (eqb-true d 6 h))
            (or_cases (eqb d 3) (eqb d 6) (all_yes c a (question10 d) (inr (inl refl))));
      }

  writes : (room : ℕ) → (d ≡ 3) ⊎ (d ≡ 6) → n ≤ room → blocks_answer limit b d room ≡ answered (n ∷ [])
  unfolding blocks_answer
  writes room k l = accepted_asks limit b (blocks_questions d room m) (blocks_figures m) e ∙ rw (known d k, le-leb n room l)

pub certificates : (limit : ℕ) (b : List ℕ) → judge_answer limit b ≡ answered [] → (set d : ℕ) → Certificates limit b set d
certificates limit b e set d =
    let m = monitor_of b in
    let w = (accepted_table limit b e).well_formed in
    record {
      accepts = λ a c. (valid limit b e set d c, accepted limit b e set d c a);
      immune = λ c h. valid_immune w (valid limit b e set d c h);
      said = said limit b e set d;
      made = λ a. (
        λ h. valid_immune w (valid limit b e set d (made_blocks m d) h),
        λ safe. accepted limit b e set d (made_blocks m d) a (made_valid w d set safe),
      );
      unapart = λ q l. subst (λ (x : ℕ). NeverApart m d x q) (sym (made_block w d q l)) (lowest_never w d q l);
      lowest = λ p q l h. lowest_least w d q l p (rw (made_block w d q l) at h);
      written = writes limit b e set d;
    }
