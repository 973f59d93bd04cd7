-- `next_state` meets its contract: what is looked for is a state of the class.
use Rattle.std.proofs.Common.{rules}
use Rattle.drawing.specs.Runs.{holds_at}
use Rattle.drawing.proofs.states.next_state.Goals as goal

pub returns : goal.returns
returns c = rw (← c.saturating_sub-count.ensures) (c.first_in.ensures (holds_at c.args.classes.now c.args.class) (λ i b from upto e. search rules))
