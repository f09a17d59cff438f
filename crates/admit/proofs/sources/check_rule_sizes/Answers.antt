use borrow.Author.Rules.{rules}
use native.Mathlib.Omega.{arith}
use Rattle.admit.proofs.Ladders.{ladder, ids_hit, ids_pass, rows_sized, entries_within}
use Rattle.admit.proofs.sources.check_rule_sizes.Goals as goal

pub returns-then-selector_over : goal.returns-then-selector_over
returns-then-selector_over c = search (ladder, rules) depth 12

pub returns-then-entries_over : goal.returns-then-entries_over
returns-then-entries_over c = search (ladder, rules) depth 12

pub held_ids-requires : goal.held_ids-requires
held_ids-requires c = rows_sized _ _ _ _ _ c.selector_over.ensures c.if-selector_over.false

pub returns-then-ids-held_ids-gt8192 : goal.returns-then-ids-held_ids-gt8192
returns-then-ids-held_ids-gt8192 c = search (ladder, ids_hit, rules) depth 12

pub overflow_add-entries : goal.overflow_add-entries
overflow_add-entries c = omega (arith, entries_within _ _ _ _ _ c.entries_over.ensures c.if-entries_over.false)

pub returns-then-entries-l-gt4096 : goal.returns-then-entries-l-gt4096
returns-then-entries-l-gt4096 c = search (ladder, ids_pass, rules) depth 12

pub returns : goal.returns
returns c = search (ladder, ids_pass, rules) depth 12
