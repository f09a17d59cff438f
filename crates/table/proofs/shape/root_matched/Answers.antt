use borrow.Author.Rules.{rules}
use Rattle.table.proofs.ShapeLaws.{root_none}
use Rattle.table.proofs.shape.root_matched.Goals as goal

pub returns : goal.returns
returns c = search (root_none, rules)
