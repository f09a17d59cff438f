use borrow.Author.Rules.{rules}
use Rattle.selector.proofs.RowLaws.{far_is}
use Rattle.matching.proofs.held.is_far.Goals as goal

-- `matching::held::is_far` meets its contract. Assumes nothing.

pub returns : goal.returns
returns c = search (far_is, rules)
