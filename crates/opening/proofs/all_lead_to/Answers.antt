-- `all_lead_to` meets its contract: no symbol leads to a state with another mark.
use Rattle.std.proofs.Common.{ap, not, eqb, rules}
use Rattle.monitor.specs.Graph.{automaton}
use Rattle.opening.specs.Marks.{mark_in}
use Rattle.opening.proofs.all_lead_to.Goals as goal

pub returns : goal.returns
returns c = ap not (c.any_below.ensures (λ a. not (eqb (mark_in c.args.marks.now ((automaton c.args.graph.now).next c.args.q a)) c.args.mark)) (λ i b l e. search rules))
