use borrow.Author.Rules.{rules}
use Rattle.selector.proofs.RowLaws.{ids_are}
use Rattle.table.proofs.ShapeLaws.{ascends_read}
use Rattle.table.proofs.shape.ids_ascend.Goals as goal

pub returns : goal.returns
returns c = search (ascends_read, ids_are, rules)
