-- `lowest_states` meets its contract: the states from `q` on are entered.
use mathlib.Core.Path.{◌≡◌, subst}
use Prim.Native.Nat.{ℕ, suc, ◌-◌}
use native.Mathlib.Omega.{arith}
use Rattle.theory.specs.Monitor.{state_limit}
use Rattle.certificate.proofs.Lowest.{Entered, enter_goes_on, enter_ends}
use Rattle.certificate.proofs.entered.lowest_states.Goals as goal

pub loop-q-preserved : goal.loop-q-preserved
loop-q-preserved c =
    let at = c.loop-q in
    let one : at.q ≡ suc (at.q - 1) = omega (arith, c.loop-q-test.true) in
    enter_goes_on (at.q - 1) c.requires (omega (arith, c.loop-q-test.true, at.invariant.upto))
    (subst (λ (q : ℕ). Entered state_limit c.args.blocks.now q at.lowest) one at.invariant)

pub returns : goal.returns
returns c = enter_ends (omega arith) c.loop-q.invariant
