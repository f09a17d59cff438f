use mathlib.Core.Path.{sym}
use native.Mathlib.Omega.{arith}
use lib.Seq.{length-take-le}
use borrow.Author.Rules.{rules}
use Rattle.changeset.proofs.Calls.{union_past, union_past_second, union_listed}
use Rattle.changeset.proofs.union.Goals as goal

pub returns-then-a-n : goal.returns-then-a-n
returns-then-a-n c = search (union_past, rules)

pub returns-then-b-m : goal.returns-then-b-m
returns-then-b-m c = search (union_past_second, rules)

pub slice_bounds-mark_all-end : goal.slice_bounds-mark_all-end
slice_bounds-mark_all-end c = sym (length-take-le _ _ (omega arith))

pub slice_bounds-mark_all-end-2 : goal.slice_bounds-mark_all-end-2
slice_bounds-mark_all-end-2 c = sym (length-take-le _ _ (omega arith))

pub returns : goal.returns
returns c = search (union_listed, rules)
