-- `harm_of` meets its contract: the way and the fault make the first series.
use Prim.Native.Nat.{◌≤◌}
use native.Mathlib.Omega.{arith}
use lib.ListN.{length, get_or}
use Rattle.square.specs.Square.{apart_at_once}
use Rattle.square.proofs.Path.{squared_falls}
use Rattle.witness.specs.Search.{automaton_in}
use Rattle.witness.proofs.Made.{Finds, Chosen, made_fits, made_fits_on, made_apart, made_written, made_makes, ready_left}
use Rattle.witness.proofs.Made.{ready_finds}
use Rattle.witness.proofs.search.Search.harm_of.Goals.{After-fault_with-fault, After-write_before-approach}
use Rattle.witness.proofs.search.Search.harm_of.Goals as goal

-- the way and the fault
chosen : (c : After-fault_with-fault)
    → (let s = c.args.self.now in
    let w = c.write_before-approach.result in
    Chosen (automaton_in s) c.args.set.bits s.square.now c.args.costs.now.costs c.enter_totals-totals.result s.table.now.start w.state w.count
    c.fault_with-fault.result)
chosen c =
    let r = c.requires in
    let w = c.write_before-approach.ensures in
    let f = c.fault_with-fault.ensures in
    record {
      start_in = c.args.self.now.table.now.sound.well_formed.start_in;
      low = rw (ready_left r c.enter_totals-totals.ensures) r.some;
      is_count = w.count;
      is_state = w.state.0;
      is_cost = w.cost;
      picked = f.first;
      ranged = f.ranged;
    }

-- the series that is made is the first
finds : (c : After-fault_with-fault)
    → (let s = c.args.self.now in
    Finds (automaton_in s) (apart_at_once s.square.now) c.args.set.bits s.square.now c.args.costs.now.costs c.enter_totals-totals.result s.table.now.start)
finds c = ready_finds c.requires c.enter_totals-totals.ensures

-- the total fits the area
fits : (c : After-fault_with-fault) → (get_or c.enter_totals-totals.result c.args.self.now.table.now.start 0 ≤ length c.args.area.now)
fits c =
    let r = c.requires in
    rw (ready_left r c.enter_totals-totals.ensures) r.fits

pub write_before-approach-requires : goal.write_before-approach-requires
write_before-approach-requires c =
    let r = c.requires in
    let left = ready_left r c.enter_totals-totals.ensures in
    (c.enter_totals-totals.ensures.leading, c.args.self.now.table.now.sound.well_formed.start_in, rw left r.some, rw left r.fits)

pub fault_with-fault-requires-clause-attained : goal.fault_with-fault-requires-clause-attained
fault_with-fault-requires-clause-attained c =
    let r = c.requires in
    let w = c.write_before-approach.ensures in
    r.searched.costed.attained _ w.state.1 (omega (arith, w.cost, ready_left r c.enter_totals-totals.ensures, r.some))

pub write_symbols-requires-clause-symbols_in_bounds : goal.write_symbols-requires-clause-symbols_in_bounds
write_symbols-requires-clause-symbols_in_bounds c =
    let after = (goal.at.write_symbols-requires-clause-symbols_in_bounds c).After-fault_with-fault in
    made_fits _ (finds after) (chosen after) c.args.area.now c.write_before-approach.ensures.area (fits after)

pub write_apart-requires : goal.write_apart-requires
write_apart-requires c =
    let after = (goal.at.write_apart-requires c).After-fault_with-fault in
    let s = c.args.self.now in
    let squared = c.requires.posed.squared in
    let p = c.after-p.ensures in
    let q = c.after-q.ensures in (
      squared_falls s.table.now.sound.well_formed.closed squared,
      p.inside,
      q.inside,
      made_apart _ (finds after) (chosen after) p.run q.run,
      made_fits_on _ (finds after) (chosen after) c.args.area.now c.write_before-approach.ensures.area c.write_symbols.ensures p.run q.run (fits after),
    )

pub returns-clause-series : goal.returns-clause-series
returns-clause-series c =
    let after = (goal.at.returns-clause-series c).After-fault_with-fault in
    let e = c.write_apart.ensures in
    λ z i. made_makes _ (finds after) (chosen after) i c.after-p.ensures.run c.after-q.ensures.run e.sent.0 e.received.0

pub returns-clause-area : goal.returns-clause-area
returns-clause-area c =
    let after = (goal.at.returns-clause-area c).After-fault_with-fault in
    λ z i. made_written _ (finds after) (chosen after) c.args.area.now i c.write_before-approach.ensures.area
    c.write_symbols.ensures c.after-p.ensures.run c.after-q.ensures.run c.write_apart.ensures.area
