use Rattle.making.proofs.Taking.{placed_same}
use Rattle.making.proofs.held.placed.Goals as goal

-- `making::held::placed` meets its contract. Assumes nothing.

pub returns-in_default : goal.returns-in_default
returns-in_default c = placed_same _ _ c.in_default.not-BadRecord
