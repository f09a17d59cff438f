use borrow.Author.Rules.{rules}
use Rattle.house.proofs.Stages.{stage_refused, stage_going}
use Rattle.making.proofs.Taking.{past_stays, past_goes}
use Rattle.making.proofs.held.past.Goals as goal

-- `making::held::past` meets its contract. Assumes nothing.

pub returns-in-Stopped : goal.returns-in-Stopped
returns-in-Stopped c = past_stays _ _ (stage_refused c.in-Stopped.is)

pub returns : goal.returns
returns c = past_goes _ _ _ (stage_going _ c.in_default.not-Stopped) (search rules)
