-- `judge_bodies` meets its contract: the bodies before this one are accepted.
use Rattle.std.proofs.Common.{◌≡◌, refl, sym, ap, ◌∙◌, rules}
use Rattle.theory.specs.Monitor.{state_limit}
use Rattle.basics.proofs.Refusals.{handed_back}
use Rattle.monitor.specs.Questions.{judge_answer, judgement}
use Rattle.writer.specs.Writing.{given_body}
use Rattle.writer.proofs.Asked.{placing, placed_judgement, none_asked, here, one_more, one_no}
use Rattle.writer.proofs.Entries.judge_bodies.Goals.{After-map_err}
use Rattle.writer.proofs.Entries.judge_bodies.Goals as goal

pub loop-entry-init : goal.loop-entry-init
loop-entry-init c = none_asked state_limit _ _

-- the body of the entry is judged, with the entry as the place
judged : (c : After-map_err)
    → (let e = c.args.self.now in let i = c.loop-entry.entry-counter in
    judgement c.map_err.result ≡ placing i (judge_answer state_limit (given_body e.lengths.now e.bodies.now i)))
judged c =
    let i = c.loop-entry.entry-counter in
    placed_judgement i c.judge.result c.map_err.result c.map_err.ensures.cases (λ e d p. search rules)
    ∙ ap (placing i) (c.judge.ensures ∙ ap (judge_answer state_limit) (here c.loop-entry.invariant refl c.part.ensures))

pub returns-in_err-map_err : goal.returns-in_err-map_err
returns-in_err-map_err c =
    handed_back _ c.from_residual.result _ c.from_residual.ensures.1
    ∙ one_no c.loop-entry.invariant c.loop-entry-test.true
    (sym (judged (goal.at.returns-in_err-map_err c).After-map_err) ∙ ap judgement c.in_err-map_err.was)

pub loop-entry-preserved : goal.loop-entry-preserved
loop-entry-preserved c =
    one_more c.loop-entry.invariant c.loop-entry-test.true (search rules)
    (sym (judged (goal.at.loop-entry-preserved c).After-map_err) ∙ ap judgement c.in_ok-map_err.was)
