use mathlib.Core.Path.{sym}
use native.Mathlib.Omega.{arith}
use lib.Seq.{length-take-le}
use borrow.Author.Rules.{rules}
use Rattle.items.proofs.Laws.{of_taken, to_taken}
use Rattle.items.proofs.held.end_within.Goals as goal

-- `items::held::end_within` meets its contract. Assumes nothing.

pub slice_bounds-end-end : goal.slice_bounds-end-end
slice_bounds-end-end c = sym (length-take-le _ _ (omega arith))

pub end-requires : goal.end-requires
end-requires c = search (to_taken, rules)

pub returns : goal.returns
returns c = search (of_taken, rules)
