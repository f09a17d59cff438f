use Rattle.records.proofs.Rows.{count_class, count_pseudo}
use borrow.Author.Rules.{rules}
use Rattle.records.proofs.held.count_place.Goals as goal

-- `records::held::count_place` meets its contract. Assumes nothing.

pub returns-then-which-eq2 : goal.returns-then-which-eq2
returns-then-which-eq2 c = search (count_class, rules)

pub returns-else-which-eq2 : goal.returns-else-which-eq2
returns-else-which-eq2 c = search (count_pseudo, rules)
