use Rattle.wording.proofs.Saying.{listed_said}
use borrow.Author.Rules.{rules}
use Rattle.wording.proofs.held.listed.Goals as goal

-- `wording::held::listed` meets its contract. Assumes nothing.

pub returns : goal.returns
returns c = search (listed_said, rules)
