use Rattle.records.proofs.Rows.{over_tag, over_id}
use borrow.Author.Rules.{rules}
use Rattle.records.proofs.held.item_over.Goals as goal

-- `records::held::item_over` meets its contract. Assumes nothing.

pub returns-then-which-lt2 : goal.returns-then-which-lt2
returns-then-which-lt2 c = search (over_tag, rules)

pub returns : goal.returns
returns c = search (over_id, rules)
