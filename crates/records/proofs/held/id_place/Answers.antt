use Rattle.records.proofs.Rows.{id_class, id_pseudo}
use borrow.Author.Rules.{rules}
use Rattle.records.proofs.held.id_place.Goals as goal

-- `records::held::id_place` meets its contract. Assumes nothing.

pub returns-then-which-eq2 : goal.returns-then-which-eq2
returns-then-which-eq2 c = search (id_class, rules)

pub returns-else-which-eq2 : goal.returns-else-which-eq2
returns-else-which-eq2 c = search (id_pseudo, rules)
