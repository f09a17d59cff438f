use mathlib.Core.Path.{sym}
use native.Mathlib.Omega.{arith}
use lib.Seq.{length-take-le}
use borrow.Author.Rules.{rules}
use Rattle.changeset.proofs.Calls.{count_past, count_set}
use Rattle.changeset.proofs.len.Goals as goal

pub returns-then-ids-n : goal.returns-then-ids-n
returns-then-ids-n c = search (count_past, rules)

pub slice_bounds-mark_all-end : goal.slice_bounds-mark_all-end
slice_bounds-mark_all-end c = sym (length-take-le _ _ (omega arith))

pub returns : goal.returns
returns c = search (count_set, rules)
