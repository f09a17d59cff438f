use Rattle.wording.proofs.Saying.{changed_said}
use borrow.Author.Rules.{rules}
use Rattle.wording.proofs.held.changed.Goals as goal

-- `wording::held::changed` meets its contract. Assumes nothing.

pub returns : goal.returns
returns c = search (changed_said, rules)
