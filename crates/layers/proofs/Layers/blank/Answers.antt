-- `blank` meets its contract: each place of an array holds the limit.
use mathlib.Core.Path.{refl}
use lib.ListN.{replicate, length-replicate, get_or-replicate}
use Rattle.theory.specs.Monitor.{state_limit}
use Rattle.layers.specs.Layers.{Blank}
use Rattle.layers.proofs.Layers.blank.Goals as goal

far : Blank state_limit (replicate state_limit state_limit)
far = record { size = length-replicate state_limit state_limit; filled = λ q l. get_or-replicate state_limit q state_limit 0 l }

pub returns : goal.returns
returns c = (far, far, refl)
