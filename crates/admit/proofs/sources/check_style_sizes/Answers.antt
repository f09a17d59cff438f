use borrow.Author.Rules.{rules}
use native.Mathlib.Omega.{arith}
use Rattle.admit.proofs.Ladders.{ladder, entries_within}
use Rattle.admit.proofs.sources.check_style_sizes.Goals as goal

pub returns-then-word-ge64 : goal.returns-then-word-ge64
returns-then-word-ge64 c = search (ladder, rules) depth 12

pub returns-then-entries_over : goal.returns-then-entries_over
returns-then-entries_over c = search (ladder, rules) depth 12

pub overflow_add-all_entries : goal.overflow_add-all_entries
overflow_add-all_entries c =
    let a = c.shared_slice_known-1.given in
    omega (arith, entries_within _ _ _ _ _ c.entries_over.ensures c.if-entries_over.false, a 3, a 5)

pub returns-then-all_entries-n-gt4096 : goal.returns-then-all_entries-n-gt4096
returns-then-all_entries-n-gt4096 c = search (ladder, rules) depth 12

pub returns : goal.returns
returns c = search (ladder, rules) depth 12
