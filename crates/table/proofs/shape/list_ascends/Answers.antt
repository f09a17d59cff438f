use borrow.Author.Rules.{rules}
use Rattle.table.proofs.ShapeLaws.{ascends_read}
use Rattle.table.proofs.shape.list_ascends.Goals as goal

pub returns : goal.returns
returns c = search (ascends_read, rules)
