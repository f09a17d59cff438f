use mathlib.Core.Path.{ap}
use mathlib.Core.Bool.{not}
use lib.Dec.{eqb}
use Rattle.advance.proofs.held.descends.Goals as goal

pub returns : goal.returns
returns c = ap (λ v. not (eqb v 0)) c.cell.ensures
