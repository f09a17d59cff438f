use borrow.Author.Rules.{rules}
use Rattle.lent.proofs.Pool.{cell_is}
use Rattle.lent.proofs.lists.cell.Goals as goal

pub returns : goal.returns
returns c = search (cell_is, rules)
