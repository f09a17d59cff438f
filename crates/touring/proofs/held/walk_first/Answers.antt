use mathlib.Core.Path.{sym}
use native.Mathlib.Omega.{arith}
use lib.Seq.{length-take-le}
use Rattle.touring.proofs.Laws.{walked_first}
use Rattle.touring.proofs.held.walk_first.Goals as goal

-- `touring::held::walk_first` meets its contract. Assumes nothing.

pub slice_bounds-feed_walk-end : goal.slice_bounds-feed_walk-end
slice_bounds-feed_walk-end c = sym (length-take-le _ _ (omega arith))

pub returns : goal.returns
returns c = walked_first c.feed_walk-w.ensures (length-take-le _ _ c.requires.n_in_bounds.0)
