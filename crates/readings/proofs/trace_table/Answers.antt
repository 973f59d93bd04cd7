-- `trace_table` meets its contract: the first no, or the reading and the count.
use Rattle.std.proofs.Common.{ap₂, ℕ}
use Rattle.theory.specs.Answer.{answered}
use Rattle.theory.specs.Extent.{Extent}
use Rattle.theory.proofs.Below.{first_whole}
use Rattle.monitor.specs.Tables.{monitor_of_table}
use Rattle.monitor.proofs.Body.{all_passed}
use Rattle.readings.proofs.Traces.{named, passed_trace}
use Rattle.readings.proofs.Following.{followed_whole, followed_reads}
use Rattle.readings.proofs.trace_table.Goals as goal

pub follow-end-requires : goal.follow-end-requires
follow-end-requires c = (c.args.table.now.sound.well_formed.start_in, first_whole _ _ c.first_not_below-wrong.ensures c.if-wrong-symbols.false)

pub returns : goal.returns
returns c =
    let found = c.first_not_below-wrong.ensures in
    let a = c.args in
    let m = monitor_of_table a.table.now in
    let followed = c.follow-end.ensures in
    let w = a.table.now.sound.well_formed in
    let yes = named c.in_ok-reading.reading a.domain c.in_ok-reading.ensures in
    let trace = passed_trace m.automaton a.symbols.now (first_whole _ _ found c.if-wrong-symbols.false) in
    rw (yes.0, ← found, all_passed _ found c.if-wrong-symbols.false)
    (ap₂ (λ (x : ℕ) (y : Extent). answered (record { reading = x; count = y }))
    (rw yes.1 (followed_reads w _ followed w.start_in trace c.of_state.ensures))
    (followed_whole m followed (rw c.marks.ensures at c.count_at.ensures)))
