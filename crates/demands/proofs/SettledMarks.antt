-- Settled marks, proved of every accepted table.
use mathlib.Core.Path.{◌≡◌, sym, ◌∙◌}
use mathlib.Core.List.{List, []}
use Prim.Native.Nat.{ℕ, ◌<◌}
use lib.ListN.{get_or}
use Rattle.theory.specs.Answer.{answered}
use Rattle.theory.specs.Settled.{settled_mark}
use Rattle.theory.proofs.Settled.{settles_sure, sure_one, settles_early, drawn_stays, counts_exact}
use Rattle.theory.proofs.Settled.{class_settled, finds_settled, monitorability_settled, reached_settled}
use Rattle.monitor.specs.Format.{states_of, symbols_of, drawn_marks, marks, nexts, drawn_of}
use Rattle.monitor.specs.Questions.{judge_answer}
use Rattle.monitor.proofs.Marks.{mark_at, settled_again}
use Rattle.monitor.proofs.Accepted.{accepted_drawn, accepted_table}
use Rattle.demands.specs.SettledMarks.{SettledMarks}

pub settled_marks_lem : (limit : ℕ) (b : List ℕ) → judge_answer limit b ≡ answered [] → SettledMarks limit b
settled_marks_lem limit b e =
    let t = accepted_drawn limit b e in
    let w = t.well_formed in
    let mark : ℕ → ℕ = λ q. get_or (marks b) q 0 in
    let is : (q : ℕ) → q < states_of b → mark q ≡ settled_mark (drawn_of b).automaton (drawn_of b).verdict q =
    mark_at (states_of b) (symbols_of b) (drawn_marks b) (nexts b) in
    record {
      exactly = λ q l v. (let x = counts_exact w q l v in (λ c. x.0 c ∙ sym (is q l), λ i. x.1 (i ∙ is q l)));
      early = λ q v l p. settles_early w v p q l;
      one = λ q v u l p o s r. sure_one w v u q p o l (settles_sure w v p q l s) (settles_sure w u o q l r);
      stays = λ q l p. is q l ∙ drawn_stays w q l p;
      kept = (accepted_table limit b e).well_formed;
      twice = settled_again t;
      classes = class_settled w mark is;
      found = λ q v l p i. finds_settled w mark is v q p i l;
      table = monitorability_settled w mark is;
      reached = reached_settled w mark is;
    }
