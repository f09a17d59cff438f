use mathlib.Core.Path.{sym}
use native.Mathlib.Omega.{arith}
use lib.Seq.{length-take-le}
use borrow.Author.Rules.{rules}
use Rattle.table.proofs.Roots.{held_within}
use Rattle.building.proofs.Builds.{roots_few, build_broken, build_code, build_row, build_cursors, build_built}
use Rattle.building.proofs.build.Goals as goal

pub returns-in_default : goal.returns-in_default
returns-in_default c = search (build_broken, c.in_default.ensures.there, rules)

pub returns-then-ranking-gt1 : goal.returns-then-ranking-gt1
returns-then-ranking-gt1 c = rw (← c.in-Some.ensures.same) (search (build_code, c.in-Some.sheet.in_shape, rules))

pub returns-then-states-wide : goal.returns-then-states-wide
returns-then-states-wide c = rw (← c.in-Some.ensures.same) (search (build_row, c.in-Some.sheet.in_shape, rules))

pub returns-then-cursors-n : goal.returns-then-cursors-n
returns-then-cursors-n c = rw (← c.in-Some.ensures.same) (search (build_cursors, c.in-Some.sheet.in_shape, rules))

pub slice_bounds-list-end : goal.slice_bounds-list-end
slice_bounds-list-end c = search (held_within, rules)

pub slice_bounds-put_root-end-2 : goal.slice_bounds-put_root-end-2
slice_bounds-put_root-end-2 c = sym (length-take-le _ _ (held_within c.roots-n.ensures))

pub put_root-requires : goal.put_root-requires
put_root-requires c = let h = c.roots-n.ensures in omega (arith, roots_few h, held_within h)

pub returns : goal.returns
returns c = rw (← c.in-Some.ensures.same) (search (build_built, c.in-Some.sheet.in_shape, rules))
