use Rattle.making.proofs.Feeding.{whole_rested, item_there}
use borrow.Author.Rules.{rules}
use Rattle.making.proofs.held.item_at.Goals as goal

-- `making::held::item_at` meets its contract. Assumes nothing.

pub record_in-requires : goal.record_in-requires
record_in-requires c = search (whole_rested, rules)

pub returns : goal.returns
returns c = search (item_there, rules)
