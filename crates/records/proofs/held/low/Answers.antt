use Rattle.records.proofs.Records.{low_none, low_one, low_two, low_three, low_whole}
use borrow.Author.Rules.{rules}
use Rattle.records.proofs.held.low.Goals as goal

-- `records::held::low` meets its contract. Assumes nothing.

pub returns-in-0 : goal.returns-in-0
returns-in-0 c = search (low_none, rules)

pub returns-in-1 : goal.returns-in-1
returns-in-1 c = search (low_one, rules)

pub returns-in-2 : goal.returns-in-2
returns-in-2 c = search (low_two, rules)

pub returns-in-3 : goal.returns-in-3
returns-in-3 c = search (low_three, rules)

pub returns-in_default : goal.returns-in_default
returns-in_default c = search (low_whole, rules)
