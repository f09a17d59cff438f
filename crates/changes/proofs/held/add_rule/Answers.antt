use native.Mathlib.Omega.{arith}
use borrow.Author.Rules.{rules}
use Rattle.changes.proofs.Gathering.{inserting_start, inserting_asks, inserting_next, inserting_end}
use Rattle.changes.proofs.held.add_rule.Goals as goal

pub loop-id-init : goal.loop-id-init
loop-id-init c = search (inserting_start, rules)

pub insert-n-requires : goal.insert-n-requires
insert-n-requires c = let asked = inserting_asks c.loop-id.invariant (omega arith) in record { used_in_bounds = asked.0; ids_value = asked.1 }

pub loop-id-preserved : goal.loop-id-preserved
loop-id-preserved c = search (inserting_next, rules)

pub returns : goal.returns
returns c = search (inserting_end, rules)
