use borrow.Author.Rules.{rules}
use Rattle.table.proofs.ShapeLaws.{ltb_both}
use Rattle.table.proofs.shape.state_exists.Goals as goal

pub returns : goal.returns
returns c = search (ltb_both, rules)
