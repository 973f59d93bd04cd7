-- `card_of` meets its contract: the search is one by marks, and the area holds every witness.
use mathlib.Core.Path.{◌∙◌}
use native.Mathlib.Nat.{mul-le-mul}
use native.Mathlib.Omega.{arith}
use Rattle.immunity.proofs.card_of.Goals as goal

pub columns_of-requires : goal.columns_of-requires
columns_of-requires c =
    let over = c.over-search.ensures in
    let small = c.over-search.result.table.now.sound.rows.states_most in (
      record { posed = over.posed; squared = over.squared; differ = over.test; marks = rw over.table (over.outputs ∙ c.marks.ensures) },
      (let most = mul-le-mul small small in omega (arith, most)),
    )

pub returns : goal.returns
returns c =
    let columns = rw c.over-search.ensures.table at c.columns_of.ensures in
    rw (c.monitorability_of.ensures, columns)
