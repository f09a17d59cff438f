use native.Mathlib.Omega.{arith}
use borrow.Author.Rules.{rules}
use Rattle.idset.proofs.Ascending.{ascent_start, ascent_stop, ascent_next, ascent_end}
use Rattle.idset.proofs.is_ascending.Goals as goal

pub loop-x-init : goal.loop-x-init
loop-x-init c = ascent_start

pub returns-then-id-low : goal.returns-then-id-low
returns-then-id-low c = search (ascent_stop, rules)

pub overflow_add-low : goal.overflow_add-low
overflow_add-low c = omega (arith, c.type_inv.ids c.loop-x.x-index)

pub loop-x-preserved : goal.loop-x-preserved
loop-x-preserved c = search (ascent_next, rules)

pub returns : goal.returns
returns c = search (ascent_end, rules)
