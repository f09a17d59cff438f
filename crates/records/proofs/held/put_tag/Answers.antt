use Rattle.records.proofs.Rows.{tag_is}
use borrow.Author.Rules.{rules}
use Rattle.records.proofs.held.put_tag.Goals as goal

-- `records::held::put_tag` meets its contract. Assumes nothing.

pub returns : goal.returns
returns c = search (tag_is, rules)
