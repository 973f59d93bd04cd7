-- `copy` meets its contract: the sets before c are copied.
use mathlib.Core.Path.{◌∙◌}
use native.Mathlib.Omega.{arith}
use lib.ListN.{length-set}
use Rattle.refining.proofs.Rounds.{copied_more}
use Rattle.refining.proofs.copy.Goals as goal

pub loop-c-preserved : goal.loop-c-preserved
loop-c-preserved c =
    let at = c.loop-c in (
      length-set at.splitters at.c c.states_of.result ∙ at.invariant.0,
      copied_more c.args.blocks.now.members at.splitters c.states_of.result (omega (arith, c.requires, c.loop-c-test.true, at.invariant.0))
          at.invariant.1 c.states_of.ensures,
    )
