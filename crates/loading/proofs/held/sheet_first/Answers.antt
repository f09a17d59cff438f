use mathlib.Core.Path.{sym}
use native.Mathlib.Omega.{arith}
use lib.Seq.{length-take-le}
use Rattle.loading.proofs.Laws.{feeds_first}
use Rattle.loading.proofs.held.sheet_first.Goals as goal

-- `loading::held::sheet_first` meets its contract. Assumes nothing.

pub slice_bounds-feed_sheet-end : goal.slice_bounds-feed_sheet-end
slice_bounds-feed_sheet-end c = sym (length-take-le _ _ (omega arith))

pub returns : goal.returns
returns c = feeds_first c.feed_sheet.ensures (length-take-le _ _ c.requires.0)
