use Rattle.wording.proofs.Saying.{number_said, number_short}
use borrow.Author.Rules.{rules}
use Rattle.wording.proofs.held.number.Goals as goal

-- `wording::held::number` meets its contract. Assumes nothing.

pub returns : goal.returns
returns c = search (number_said, number_short, rules)
