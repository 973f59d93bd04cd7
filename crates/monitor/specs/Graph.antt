-- What the next states that are handed on stand for.
use Rattle.theory.specs.Automaton.{Automaton}
use Rattle.monitor.specs.Format.{automaton_of}
use Rattle.monitor.specs.declared.graph.Graph.{Graph}

-- the automaton of these states, symbols and next states
abbrev pub automaton : Graph → Automaton
automaton g = automaton_of g.states g.symbols g.nexts.now
