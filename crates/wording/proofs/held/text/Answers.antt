use Rattle.wording.proofs.Saying.{laid_said}
use borrow.Author.Rules.{rules}
use Rattle.wording.proofs.held.text.Goals as goal

-- `wording::held::text` meets its contract. Assumes nothing.

pub returns : goal.returns
returns c = search (laid_said, rules)
