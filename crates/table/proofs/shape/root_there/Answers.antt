use borrow.Author.Rules.{rules}
use Rattle.table.specs.Shape.{root_there}
use Rattle.table.proofs.ShapeLaws.{leb_read}
use Rattle.table.proofs.shape.root_there.Goals as goal

pub returns : goal.returns
unfolding root_there
returns c = search (leb_read, rules)
