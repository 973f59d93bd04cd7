-- The three parts of a received trace: each is a trace, and the counts of what is read of them add up.
use mathlib.Core.Path.{◌≡◌, refl, sym, ap, ◌∙◌}
use mathlib.Core.Bool.{cond}
use mathlib.Core.List.{List, [], ◌∷◌, ◌++◌}
use Prim.Native.Nat.{ℕ, ◌+◌, ◌≤◌}
use native.Mathlib.Omega.{arith}
use lib.ListN.{length, take, drop, replicate, length-drop, take-append-drop}
use lib.Seq.{take_all, take_at, sets, sets-eq}
use Rattle.theory.specs.Extent.{Extent, number, missing}
use Rattle.theory.specs.Automaton.{Automaton, Trace}
use Rattle.theory.specs.Monitor.{Monitor, marked}
use Rattle.theory.specs.Count.{later, count_from}
use Rattle.theory.proofs.Reach.{trace_left, trace_right}
use Rattle.theory.proofs.Count.{later_later}
use Rattle.monitor.specs.Questions.{first_not_below}
use Rattle.faults.specs.declared.Symbols.{Symbols}
use Rattle.faults.specs.Steps.{trace_of, Inside}
use Rattle.faults.proofs.AtMostTwo.{count_is}
use Rattle.readings.specs.declared.answers.Progress.{Progress}
use Rattle.readings.specs.Following.{Followed}
use Rattle.readings.proofs.Traces.{passed_trace, trace_passed}
use Rattle.readings.proofs.Following.{followed_count, followed_whole, count_end}

-- ---- the parts as they are lent

pub rest_is : (w : List ℕ) (i : ℕ) {r : List ℕ} → r ≡ take (length w) (drop i w) → r ≡ drop i w
rest_is w i e = e ∙ take_all (length w) (drop i w) (omega (arith, length-drop i w))

pub delivered_is : (s : Symbols) {d r : List ℕ} → s.count ≤ 2 → d ≡ sets (replicate 2 0) 0 (trace_of s) → r ≡ take s.count (drop 0 d) → r ≡ trace_of s
delivered_is s l ed er =
    let size = count_is s l in
    er ∙ ap (take s.count) (ed ∙ sets-eq (trace_of s) (replicate 2 0) 0 (omega (arith, size)))
    ∙ take_at (trace_of s) (drop (0 + length (trace_of s)) (replicate 2 0)) s.count (sym size)

-- ---- each is a trace

module _ (g : Automaton) where
  module _ (w : List ℕ) (i : ℕ) (t : Trace g w) where
    parts : Trace g (take i w ++ drop i w)
    parts = rw (take-append-drop i w) t

    trace_front : Trace g (take i w)
    trace_front = trace_left g (take i w) (drop i w) parts

    trace_rest : Trace g (drop i w)
    trace_rest = trace_right g (take i w) (drop i w) parts

  -- the symbols before the fault, and those behind it
  module _ (w : List ℕ) (i : ℕ) (e : first_not_below g.symbols w ≡ length w) where
    pub front_passes : first_not_below g.symbols (take i w) ≡ length (take i w)
    front_passes = trace_passed g (take i w) (trace_front w i (passed_trace g w e))

    pub rest_passes : {r : List ℕ} → r ≡ take (length w) (drop i w) → first_not_below g.symbols r ≡ length r
    rest_passes er = rw (rest_is w i er) (trace_passed g (drop i w) (trace_rest w i (passed_trace g w e)))

  -- the symbols delivered
  pub delivered_passes : (s : Symbols) → Inside g.symbols s → {r : List ℕ} → r ≡ trace_of s → first_not_below g.symbols r ≡ length r
  unfolding Trace
  delivered_passes s i er = rw er (trace_passed g (trace_of s) (trace_front (s.first ∷ s.second ∷ []) s.count (i.first_in, (i.second_in, tt))))

-- ---- the count of the three

pub parts_count : (m : Monitor) {q : ℕ} {x y z : List ℕ} {one two three : Progress} {c : Extent}
    → Followed m q x one → Followed m one.state y two → Followed m two.state z three
    → c ≡ cond (marked m 0 three.state) missing (number (one.read + two.read + three.read)) → c ≡ count_from m q (x ++ (y ++ z))
parts_count m {y = y} {z = z} {one = one} {two = two} {three = three} f g h e =
    let end = count_from m three.state [] in
    e ∙ count_end m three.state (one.read + two.read + three.read)
    ∙ sym (later_later (one.read + two.read) three.read end)
    ∙ sym (later_later one.read two.read (later three.read end))
    ∙ ap (λ (n : Extent). later one.read (later two.read n)) (sym (count_end m three.state three.read) ∙ followed_whole m h refl)
    ∙ ap (later one.read) (sym (followed_count m z g))
    ∙ sym (followed_count m (y ++ z) f)
