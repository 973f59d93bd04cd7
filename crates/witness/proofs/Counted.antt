-- The witness with its counts: what is counted is the first harmful series.
use mathlib.Core.Path.{◌≡◌, sym, ap, ◌∙◌}
use mathlib.Core.List.{List, ◌++◌, append_assoc}
use mathlib.Core.Option.{some}
use Prim.Native.Nat.{ℕ, ◌+◌, ◌≤◌}
use native.Mathlib.Omega.{arith}
use lib.ListN.{length, get_or, take, drop, length-append}
use lib.Seq.{sets, sets-eq, take_at, drop_at}
use Rattle.theory.specs.Automaton.{Automaton}
use Rattle.theory.specs.Faults.{FaultStep, steps}
use Rattle.theory.specs.Series.{Series, sent_trace, received_trace}
use Rattle.theory.specs.Count.{verdict_count}
use Rattle.theory.specs.Monitor.{WellFormed, state_limit}
use Rattle.theory.proofs.Lists.{some_same}
use Rattle.theory.proofs.Faults.{steps_good, steps_rise}
use Rattle.theory.proofs.Witness.{first_harms, sent_trace_lem, sent_length}
use Rattle.square.specs.Square.{apart_at_once}
use Rattle.faults.specs.Kinds.{bit_of}
use Rattle.faults.specs.Steps.{trace_of}
use Rattle.faults.proofs.AtMostTwo.{count_is}
use Rattle.readings.specs.Readings.{counted}
use Rattle.readings.proofs.Traces.{trace_passed}
use Rattle.counts.specs.declared.Counts.{Counts}
use Rattle.counts.specs.Traces.{delivered_trace, FaultWithin}
use Rattle.totals.specs.declared.Costs.{Costs}
use Rattle.witness.specs.declared.search.Search.{Search}
use Rattle.witness.specs.declared.search.Harm.{Harm}
use Rattle.witness.specs.Figures.{series_figures, witness_values}
use Rattle.witness.specs.Search.{monitor_in, automaton_in, first_of, Ready, Makes}
use Rattle.witness.proofs.Answers.{search_some}

module _ {find : Search} {set : ℕ} {costs : Costs} {room : ℕ} (r : Ready find set costs room) where
  abbrev g : Automaton
  g = automaton_in find

  abbrev start : ℕ
  start = find.table.now.start

  well : WellFormed state_limit (monitor_in find)
  well = find.table.now.sound.well_formed

  -- there is a first series, as long as the total
  pub ready_first : (s : Series) × (first_of find set ≡ some s) × (length (sent_trace s) ≡ costs.total)
  ready_first = search_some well.closed r.posed.squared well.start_in r.searched r.some

  module _ {s : Series} (e : first_of find set ≡ some s) where
    long : length (sent_trace s) ≡ costs.total
    long = ap (λ (z : Series). length (sent_trace z)) (some_same (sym e ∙ ready_first.1)) ∙ ready_first.2

    -- the trace is what stands in the first places of the area
    pub made_lent : (area : List ℕ) {after : List ℕ} → room ≡ length area → after ≡ sets area 0 (sent_trace s) → take costs.total after ≡ sent_trace s
    made_lent area er ea =
        let w = sent_trace s in
        let fits : 0 + length w ≤ length area = (let x = long in let y = r.fits in omega (arith, x, y, er)) in
        ap (take costs.total) (ea ∙ sets-eq w area 0 fits) ∙ take_at w (drop (0 + length w) area) costs.total long

    module _ {h : Harm} (k : Makes g start s h) where
      -- how many symbols the fault covers
      covers : h.fault.sent.count ≡ length s.fault.sent
      covers = count_is h.fault.sent k.ranged.sent_in.count_most ∙ ap (λ (f : FaultStep). length f.sent) k.fault

      pub made_within : FaultWithin g.symbols (sent_trace s) h.before h.fault
      made_within =
          let valid = (first_harms g (apart_at_once find.square.now) (steps set g.symbols) well.closed (steps_good g set) start
          well.start_in (steps_rise set g.symbols) s e).harm.valid in
          record {
            trace = trace_passed g (sent_trace s) (sent_trace_lem g (steps set g.symbols) (steps_good g set) s valid);
            ranged = k.ranged;
            within = (let x = sent_length s in let y = covers in let z = k.before in omega (arith, x, y, z));
          }

      -- what is delivered is the received trace
      made_delivered : delivered_trace (sent_trace s) h.before h.fault ≡ received_trace s
      made_delivered =
          let b = s.before in
          let c = s.fault.sent in
          let at = h.before + h.fault.sent.count in
          let front : take h.before (b ++ (c ++ s.after)) ≡ b = take_at b (c ++ s.after) h.before (sym k.before) in
          let struck : trace_of h.fault.received ≡ s.fault.received = ap (λ (f : FaultStep). f.received) k.fault in
          let size : length (b ++ c) ≡ at = length-append b c ∙ (let x = k.before in let y = covers in omega (arith, x, y)) in
          let rest : drop at (b ++ (c ++ s.after)) ≡ s.after = ap (drop at) (sym (append_assoc b c s.after)) ∙ drop_at (b ++ c) s.after at size in
          rw (front, struck, rest)

      -- the values of the witness made, with the counts of both traces
      pub made_figures : (c : Counts) → counted c.sent ≡ verdict_count (monitor_in find) (sent_trace s)
          → counted c.received ≡ verdict_count (monitor_in find) (delivered_trace (sent_trace s) h.before h.fault)
          → witness_values
          (record {
            distance = costs.total;
            before = h.before;
            kind = h.fault.kind;
            replacement = h.fault.replacement;
            sent = get_or find.outputs.now h.ends.sent 0;
            received = get_or find.outputs.now h.ends.received 0;
            counts = c;
          })
          ≡ series_figures (λ q. get_or find.outputs.now q 0) (monitor_in find) s
      made_figures c ec ed =
          let kind : bit_of h.fault.kind ≡ s.fault.kind = ap (λ (f : FaultStep). f.kind) k.fault in
          let replacement : h.fault.replacement ≡ s.fault.replacement = ap (λ (f : FaultStep). f.replacement) k.fault in
          rw (← long, k.before, kind, replacement, k.sent, k.received, ec, ed, made_delivered)
