use borrow.Author.Rules.{rules}
use Rattle.house.proofs.Stages.{stage_awaits, stage_over}
use Rattle.making.proofs.Feeding.{ahead_stops, ahead_ends, ahead_front}
use Rattle.making.proofs.held.ahead.Goals as goal

-- `making::held::ahead` meets its contract. Assumes nothing.

pub returns-in-Stopped : goal.returns-in-Stopped
returns-in-Stopped c = ahead_stops _ _ (stage_over c.in-Stopped.is)

pub returns-then-input-at : goal.returns-then-input-at
returns-then-input-at c = search (ahead_ends, rules)

pub returns-else-input-at : goal.returns-else-input-at
returns-else-input-at c = ahead_front _ _ _ (stage_awaits c.in-Unbegun.is) c.if-input-at.false c.front.ensures
