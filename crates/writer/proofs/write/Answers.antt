-- `write` meets its contract.
use Rattle.std.proofs.Common.{◌≡◌, sym, ◌∙◌, length}
use Rattle.theory.specs.Answer.{answered, asks}
use Rattle.theory.specs.Monitor.{state_limit}
use Rattle.theory.proofs.Answer.{untouched, written_over}
use Rattle.basics.proofs.Refusals.{handed_back}
use Rattle.monitor.specs.Questions.{no_values}
use Rattle.writer.specs.Writing.{file_of, given_questions, Fits}
use Rattle.writer.proofs.Given.{given_fits, write_refused, write_short, write_answered}
use Rattle.writer.proofs.write.Goals.{In_ok-judge}
use Rattle.writer.proofs.write.Goals as goal

-- all before the room is answered yes, and the lists fit
passed : (c : In_ok-judge)
    → (let a = c.args in
    Fits a.rules.now a.lengths.now a.bodies.now
    × (asks (given_questions state_limit a.rules.now a.lengths.now a.bodies.now) no_values ≡ answered no_values))
passed c = (given_fits state_limit _ _ _ (sym c.in_ok-judge.ensures), sym c.in_ok-judge.ensures)

pub returns-in_err-judge : goal.returns-in_err-judge
returns-in_err-judge c =
    let a = c.args in
    let e = write_refused state_limit a.rules.now a.lengths.now a.bodies.now (length a.area.now) (sym c.in_err-judge.ensures) in
    record {
      figures = handed_back _ c.from_residual.result _ c.from_residual.ensures.1 ∙ e;
      area = untouched (file_of a.rules.now a.lengths.now a.bodies.now) a.area.now (sym e);
    }

pub returns-then-area-length : goal.returns-then-area-length
returns-then-area-length c =
    let a = c.args in
    let p = passed (goal.at.returns-then-area-length c).In_ok-judge in
    let e = write_short state_limit a.rules.now a.lengths.now a.bodies.now _ p.0 p.1 c.if-area-length.true in
    record { figures = rw (c.at.ensures) e; area = untouched (file_of a.rules.now a.lengths.now a.bodies.now) a.area.now (sym e) }

pub returns : goal.returns
returns c =
    let a = c.args in
    let p = passed (goal.at.returns c).In_ok-judge in
    let e = write_answered state_limit a.rules.now a.lengths.now a.bodies.now _ p.0 p.1 c.if-area-length.false in
    record { figures = e; area = c.put_file.ensures ∙ written_over (file_of a.rules.now a.lengths.now a.bodies.now) a.area.now (sym e) }
