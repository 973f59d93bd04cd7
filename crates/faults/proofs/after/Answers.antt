-- `after` meets its contract: no symbol, one, or two.
use Rattle.theory.specs.Automaton.{run}
use Rattle.monitor.specs.Graph.{automaton}
use Rattle.faults.proofs.AtMostTwo.{count_two, run_one, run_two}
use Rattle.faults.proofs.after.Goals as goal

pub returns-then-symbols-eq0 : goal.returns-then-symbols-eq0
unfolding run
returns-then-symbols-eq0 c = record { run = rw c.if-symbols-eq0.true; inside = c.requires.p_lt_n }

pub returns-then-symbols-eq1 : goal.returns-then-symbols-eq1
returns-then-symbols-eq1 c =
    let x = c.successor-x.ensures in
    record { run = rw c.if-symbols-eq1.true (run_one (automaton c.args.graph.now) x.next); inside = x.inside }

pub returns : goal.returns
returns c =
    let y = c.successor.ensures in
    let two = count_two c.requires.symbols_inside c.if-symbols-eq0.false c.if-symbols-eq1.false in
    record { run = rw two (run_two (automaton c.args.graph.now) c.successor-x.ensures.next y.next); inside = y.inside }
