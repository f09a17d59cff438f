use Rattle.wording.proofs.Saying.{number_same}
use borrow.Author.Rules.{rules}
use Rattle.wording.proofs.held.small.Goals as goal

-- `wording::held::small` meets its contract. Assumes nothing.

pub returns : goal.returns
returns c = search (number_same, rules)
