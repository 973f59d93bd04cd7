-- `write_readings` meets its contract: where the domain is no reading, it copies zeros.
use Rattle.std.proofs.Common.{◌≡◌, refl, ◌∙◌, ℕ, ◌≤◌, arith, length, get_or, take, replicate}
use Rattle.std.proofs.lemmas.List.{get_or-take}
use lib.ListN.{length-take, length-replicate, get_or-replicate}
use Rattle.theory.specs.Monitor.{reading, state_limit}
use Rattle.theory.proofs.Values.{filled_same}
use Rattle.monitor.specs.Tables.{monitor_of_table}
use Rattle.readings.proofs.Traces.{reads_none, unnamed, lent_values}
use Rattle.readings.proofs.write_readings.Goals as goal

-- the first n of an array of zeros
zeros_count : (n limit : ℕ) → n ≤ limit → length (take n (replicate {A = ℕ} limit 0)) ≡ n
zeros_count n limit l = simp (length-take, length-replicate) (omega arith)

pub returns-in-Err : goal.returns-in-Err
returns-in-Err c =
    let t = c.args.table.now in
    let n = t.graph.states in
    let most = t.sound.well_formed.states_most in
    let zeros = replicate {A = ℕ} state_limit 0 in
    c.copy.ensures
    ∙ lent_values (take n zeros) c.args.area.now (zeros_count n state_limit most)
    ∙ filled_same (λ q. get_or (take n zeros) q 0) (reading (monitor_of_table t) c.args.domain) c.args.area.now refl
    (λ q h. get_or-take n zeros q 0 h ∙ get_or-replicate {A = ℕ} state_limit q 0 0 (omega (arith, h, most))
    ∙ reads_none (monitor_of_table t) c.args.domain q (unnamed c.in-Err.field-0 c.args.domain c.in-Err.ensures))
