use mathlib.Core.Path.{sym}
use native.Mathlib.Omega.{arith}
use lib.Seq.{length-take-le}
use borrow.Author.Rules.{rules}
use Rattle.changeset.proofs.Calls.{set_past, set_listed}
use Rattle.changeset.proofs.from_property_ids.Goals as goal

pub returns-then-ids-count : goal.returns-then-ids-count
returns-then-ids-count c = search (set_past, rules)

pub slice_bounds-mark_all-end : goal.slice_bounds-mark_all-end
slice_bounds-mark_all-end c = sym (length-take-le _ _ (omega arith))

pub returns : goal.returns
returns c = search (set_listed, rules)
