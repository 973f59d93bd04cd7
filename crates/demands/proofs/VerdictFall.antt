-- When the verdict of a trace falls, proved of every accepted table and every trace of it.
use mathlib.Core.Path.{◌≡◌, ◌∙◌}
use mathlib.Core.List.{List, []}
use Prim.Native.Nat.{ℕ}
use native.Mathlib.Omega.{arith}
use lib.ListN.{length}
use borrow.Author.Tests.{eq-eqb, ne_eqb}
use Rattle.theory.specs.Answer.{answered}
use Rattle.theory.specs.Automaton.{Trace}
use Rattle.theory.specs.Monitor.{reading}
use Rattle.theory.specs.Count.{Decided, verdict_count}
use Rattle.theory.specs.Series.{Series, Valid, sent_trace, received_trace}
use Rattle.theory.specs.Distance.{faults_of}
use Rattle.theory.proofs.Extent.{shortest_one}
use Rattle.theory.proofs.Faults.{steps_good}
use Rattle.theory.proofs.Witness.{sent_trace_lem, received_trace_lem}
use Rattle.theory.proofs.Count.{count_exact, count_now, never_exactly, count_kept}
use Rattle.monitor.specs.Format.{symbols_of, monitor_of}
use Rattle.monitor.specs.Questions.{first_not_below, judge_answer}
use Rattle.monitor.proofs.Accepted.{accepted_table, accepted_asks}
use Rattle.readings.specs.Readings.{trace_questions, trace_figures, trace_answer}
use Rattle.readings.proofs.Traces.{trace_passed}
use Rattle.demands.specs.VerdictFall.{VerdictFall, BothFall, WitnessFall}
use Rattle.demands.proofs.DemandTwo.{known}

pub verdict_fall : (limit : ℕ) (b : List ℕ) → judge_answer limit b ≡ answered [] → (w : List ℕ) → Trace (monitor_of b).automaton w → VerdictFall limit b w
unfolding reading trace_answer
verdict_fall limit b e w t =
    let m = monitor_of b in
    let h = (accepted_table limit b e).well_formed in
    let exact = count_exact m m.start w in
    let passed = eq-eqb (first_not_below (symbols_of b) w) (length w) (trace_passed m.automaton w t) in
    record {
      least = exact;
      only = λ x s. shortest_one (Decided m m.start w) x (verdict_count m w) s exact;
      at_start = λ l. count_now m m.start w (ne_eqb (m.verdict m.start) 0 (λ z. omega (arith, l, z)));
      never = never_exactly h m.start w h.start_in t;
      kept = count_kept h m.start w h.start_in t;
      answers = λ d k. accepted_asks limit b (trace_questions d w m) (trace_figures d w m) e ∙ rw (known d k, passed);
    }

-- and of the two traces of every series of one fault
both_fall : (limit : ℕ) (b : List ℕ) → judge_answer limit b ≡ answered [] → (set : ℕ) (s : Series)
    → Valid (monitor_of b).automaton (faults_of (monitor_of b) set) s → BothFall limit b s
both_fall limit b e set s v =
    let g = (monitor_of b).automaton in
    let faults = faults_of (monitor_of b) set in
    record {
      sent = verdict_fall limit b e (sent_trace s) (sent_trace_lem g faults (steps_good g set) s v);
      received = verdict_fall limit b e (received_trace s) (received_trace_lem g faults (steps_good g set) s v);
    }

-- so of every witness
pub witness_fall : (limit : ℕ) (b : List ℕ) → judge_answer limit b ≡ answered [] → (d set : ℕ) (s : Series) → WitnessFall limit b d set s
witness_fall limit b e d set s = record {
  witness = λ w. both_fall limit b e set s w.valid;
  misreading = λ v w. both_fall limit b e set s w.valid;
}
