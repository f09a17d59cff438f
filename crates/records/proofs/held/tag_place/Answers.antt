use Rattle.records.proofs.Rows.{tag_type, tag_part}
use borrow.Author.Rules.{rules}
use Rattle.records.proofs.held.tag_place.Goals as goal

-- `records::held::tag_place` meets its contract. Assumes nothing.

pub returns-then-which-eq0 : goal.returns-then-which-eq0
returns-then-which-eq0 c = search (tag_type, rules)

pub returns-else-which-eq0 : goal.returns-else-which-eq0
returns-else-which-eq0 c = search (tag_part, rules)
