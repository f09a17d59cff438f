use mathlib.Core.Path.{◌∙◌}
use Rattle.keys.proofs.Order.{key_equal}
use Rattle.winners.proofs.held.same.Goals as goal

pub returns-in-Some-Some : goal.returns-in-Some-Some
returns-in-Some-Some c = rw (c.in-Some-Some.is-0, c.in-Some-Some.is-1) (c.eq.ensures ∙ key_equal _ _)
