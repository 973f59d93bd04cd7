-- `fault_with` meets its contract: no step before those that are left costs this, and some step does.
use mathlib.Core.Path.{◌∙◌}
use Rattle.faults.proofs.Found.{seek_finds, seek_on, seek_ends}
use Rattle.faults.proofs.fault_with.Goals as goal

pub returns-then-cost_of-cost-clause-first : goal.returns-then-cost_of-cost-clause-first
returns-then-cost_of-cost-clause-first c =
    seek_finds c.loop-fault.invariant.1 c.in-Some.ensures.steps.0 c.cost_of.ensures c.if-cost_of-cost.true

pub loop-fault-preserved : goal.loop-fault-preserved
loop-fault-preserved c = (
  c.in-Some.ensures.steps.2 ∙ c.loop-fault.invariant.0,
  seek_on c.loop-fault.invariant.1 c.in-Some.ensures.steps.0 c.cost_of.ensures c.if-cost_of-cost.false,
)

pub unreachable-requires : goal.unreachable-requires
unreachable-requires c = seek_ends c.loop-fault.invariant.1 c.in-None.ensures.steps.0 c.requires.attained
