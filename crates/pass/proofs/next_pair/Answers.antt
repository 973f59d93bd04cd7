-- `next_pair` meets its contract.
use mathlib.Core.Path.{refl, sym}
use native.Mathlib.Omega.{arith}
use borrow.Author.Tests.{eq-eqb, ne_eqb}
use Rattle.pass.proofs.Pass.{on_next, on_row, on_column}
use Rattle.pass.proofs.next_pair.Goals as goal

pub overflow_add-column : goal.overflow_add-column
overflow_add-column c = (let p = c.requires in let l = on_column (record { is = p.2 }) p.1 in omega (arith, l, p.0))

pub overflow_add-result : goal.overflow_add-result
overflow_add-result c = (let p = c.requires in let l = on_row (record { is = p.2 }) p.1 in omega (arith, l, p.0))

pub returns-then-column-n : goal.returns-then-column-n
returns-then-column-n c = rw (sym (on_next (record { is = c.requires.2 })), eq-eqb _ _ c.if-column-n.true) refl

pub returns : goal.returns
returns c = rw (sym (on_next (record { is = c.requires.2 })), ne_eqb _ _ c.if-column-n.false) refl
