use mathlib.Core.Path.{refl}
use Rattle.admit.proofs.Ladders.{group_shapeless}
use Rattle.admit.proofs.sources.check_group.Goals as goal

pub returns-in_default : goal.returns-in_default
returns-in_default c = group_shapeless _ _ c.in_default.ensures.there refl _ _ _

pub returns : goal.returns
returns c = rw (← c.in-Some.ensures.same) c.check_group.ensures
