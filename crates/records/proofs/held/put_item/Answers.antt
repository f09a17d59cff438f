use Rattle.records.proofs.Rows.{few_left, tag_put, id_put}
use borrow.Author.Rules.{rules}
use Rattle.records.proofs.held.put_item.Goals as goal

-- `records::held::put_item` meets its contract. Assumes nothing.

pub returns-then-which-lt2 : goal.returns-then-which-lt2
returns-then-which-lt2 c = search (tag_put, rules)

pub put_id-requires : goal.put_id-requires
put_id-requires c = search (few_left, rules)

pub returns : goal.returns
returns c = search (id_put, rules)
