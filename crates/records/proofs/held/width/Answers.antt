use Rattle.records.proofs.Records.{width_is, width_most}
use borrow.Author.Rules.{rules}
use Rattle.records.proofs.held.width.Goals as goal

-- `records::held::width` meets its contract. Assumes nothing.

pub returns : goal.returns
returns c = search (width_is, width_most, rules)
