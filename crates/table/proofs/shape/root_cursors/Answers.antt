use mathlib.Core.Path.{sym}
use lib.Seq.{length-take-le}
use borrow.Author.Rules.{rules}
use Rattle.table.proofs.Roots.{held_within, roots_are}
use Rattle.table.proofs.shape.root_cursors.Goals as goal

pub slice_bounds-built-end : goal.slice_bounds-built-end
slice_bounds-built-end c = search (held_within, rules)

pub slice_bounds-compare-end : goal.slice_bounds-compare-end
slice_bounds-compare-end c = sym (length-take-le _ _ (held_within c.roots-n.ensures))

pub returns : goal.returns
returns c = search (roots_are, rules)
