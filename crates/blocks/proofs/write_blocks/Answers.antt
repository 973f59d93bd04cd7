-- `write_blocks` meets its contract: the blocks of the search are those of states that are never told apart.
use Rattle.std.proofs.Common.{◌≡◌, refl, ap, ap₂, ◌∙◌, List, ℕ, set, arith}
use Rattle.theory.specs.Below.{values}
use Rattle.theory.specs.Monitor.{reading}
use Rattle.theory.specs.Certificate.{lowest_alike}
use Rattle.theory.proofs.Values.{filled_read, filled_turn}
use Rattle.monitor.specs.Tables.{monitor_of_table}
use Rattle.readings.specs.Domains.{domain_of}
use Rattle.certificate.specs.Agreeing.{lowest_in}
use Rattle.blocks.proofs.Made.{blocks_numbered, lowest_is}
use Rattle.blocks.proofs.write_blocks.Goals.{After-lowest_of}
use Rattle.blocks.proofs.write_blocks.Goals as goal

pub new-blocks-requires : goal.new-blocks-requires
new-blocks-requires c =
    let below = c.numbers_below.ensures in
    blocks_numbered c.enter-found.ensures.blocks below.long below.each

pub loop-q-init : goal.loop-q-init
unfolding values
loop-q-init c = refl

-- the lowest state of the block of q is the lowest that is never told apart from it
lowest : (c : After-lowest_of)
    → (let t = c.args.table.now in
    c.lowest_of.result ≡ lowest_alike (monitor_of_table t) (domain_of c.args.reading) c.loop-q.q)
lowest c =
    let m = monitor_of_table c.args.table.now in
    let d = domain_of c.args.reading in
    let read = filled_read m.automaton.states (reading m d) _ c.write.ensures in
    let found = c.enter-found.ensures in
    let below = c.numbers_below.ensures in
    c.lowest_of.ensures.value
    ∙ ap (λ (numbers : List ℕ). lowest_in numbers c.loop-q.q) c.new-blocks.ensures.numbers
    ∙ lowest_is c.args.table.now.sound.well_formed d _ _ read found.distances _ found.blocks below.long below.each c.loop-q.q c.loop-q-test.true

pub loop-q-preserved : goal.loop-q-preserved
loop-q-preserved c =
    let m = monitor_of_table c.args.table.now in
    let at = c.loop-q in
    ap₂ (λ (l : List ℕ) (v : ℕ). set l at.q v) at.invariant (lowest (goal.at.loop-q-preserved c).After-lowest_of)
    ∙ filled_turn (lowest_alike m (domain_of c.args.reading)) c.args.area.now at.q (omega (arith, c.loop-q-test.true, c.requires))
