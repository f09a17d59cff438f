use borrow.Author.Rules.{rules}
use Rattle.table.proofs.ShapeLaws.{leb_read_left}
use Rattle.table.proofs.shape.is_at_most.Goals as goal

pub returns : goal.returns
returns c = search (leb_read_left, rules)
