use mathlib.Core.Path.{refl}
use Rattle.making.proofs.held.end.Goals as goal

-- `making::held::end` meets its contract. Assumes nothing.

pub returns-in-Unknown : goal.returns-in-Unknown
returns-in-Unknown c = (λ _. c.refused.ensures, λ n. absurd (n c.in-Unknown.is))

pub returns-in_default : goal.returns-in_default
returns-in_default c = (λ e. absurd (c.in_default.not-Unknown e), λ _. refl)
