-- `steps` meets its contract: all fault steps are those from the first kind on.
use mathlib.Core.Path.{◌≡◌, sym, ap, ◌∙◌}
use native.Mathlib.Omega.{arith}
use Rattle.theory.specs.Faults.{steps}
use Rattle.faults.specs.Yields.{rest}
use Rattle.faults.proofs.Rest.{all_onward, no_symbols}
use Rattle.faults.proofs.FaultSet.steps.Goals.{then-symbols-gt0, else-symbols-gt0}
use Rattle.faults.proofs.FaultSet.steps.Goals as goal

pub returns-clause-all : goal.returns-clause-all
unfolding rest
returns-clause-all c =
    let set = c.args.self.bits in
    let k = c.args.symbols in
    elim c.if-symbols-gt0.branch [
      | then-symbols-gt0 w ↦ rw w.result-is (w.first_from.ensures.rest k w.if-symbols-gt0.true ∙ all_onward set k)
      | else-symbols-gt0 w ↦ (let none : k ≡ 0 = omega (arith, w.if-symbols-gt0.false) in
          rw w.result-is (sym (ap (steps set) none ∙ no_symbols set)))
    ]
