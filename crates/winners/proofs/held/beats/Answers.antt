use mathlib.Core.Path.{◌∙◌}
use Rattle.keys.proofs.Order.{key_greater}
use Rattle.winners.proofs.held.beats.Goals as goal

pub returns-in-Some : goal.returns-in-Some
returns-in-Some c = rw c.in-Some.is (c.gt.ensures ∙ key_greater _ _)
