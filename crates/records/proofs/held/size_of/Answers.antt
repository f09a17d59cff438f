use Rattle.records.proofs.Records.{size_is, size_bound}
use borrow.Author.Rules.{rules}
use Rattle.records.proofs.held.size_of.Goals as goal

-- `records::held::size_of` meets its contract. Assumes nothing.

pub returns : goal.returns
returns c = search (size_is, size_bound, rules)
