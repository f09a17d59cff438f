use borrow.Author.Rules.{rules}
use Rattle.making.proofs.Taking.{stage_end, stage_on}
use Rattle.making.proofs.held.stage_after.Goals as goal

-- `making::held::stage_after` meets its contract. Assumes nothing.

pub returns-then-kind-eq8 : goal.returns-then-kind-eq8
returns-then-kind-eq8 c = search (stage_end, rules)

pub returns-else-kind-eq8 : goal.returns-else-kind-eq8
returns-else-kind-eq8 c = search (stage_on, rules)
