use mathlib.Core.Path.{sym}
use native.Mathlib.Omega.{arith}
use lib.Seq.{length-take-le}
use borrow.Author.Rules.{rules}
use Rattle.table.proofs.Roots.{held_within}
use Rattle.building.proofs.Builds.{roots_few, root_built_lem}
use Rattle.building.proofs.held.build.Goals as goal

pub slice_bounds-list-end : goal.slice_bounds-list-end
slice_bounds-list-end c = search (held_within, rules)

pub slice_bounds-put_root-end : goal.slice_bounds-put_root-end
slice_bounds-put_root-end c = sym (length-take-le _ _ (held_within c.roots-n.ensures))

pub put_root-requires : goal.put_root-requires
put_root-requires c = let h = c.roots-n.ensures in omega (arith, roots_few h, held_within h)

pub returns : goal.returns
returns c = search (root_built_lem, rules)
