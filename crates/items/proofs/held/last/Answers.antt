use mathlib.Core.Path.{sym}
use native.Mathlib.Omega.{arith}
use lib.Seq.{length-take-le}
use borrow.Author.Rules.{rules}
use Rattle.items.proofs.Laws.{ends_by}
use Rattle.items.proofs.held.last.Goals as goal

-- `items::held::last` meets its contract. Assumes nothing.

pub slice_bounds-rest-end : goal.slice_bounds-rest-end
slice_bounds-rest-end c = sym (length-take-le _ _ (omega arith))

pub returns : goal.returns
returns c = search (ends_by, rules)
