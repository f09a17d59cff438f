use borrow.Author.Rules.{rules}
use Rattle.table.specs.Shape.{rule_exists}
use Rattle.table.proofs.ShapeLaws.{ltb_one}
use Rattle.table.proofs.shape.rule_exists.Goals as goal

pub returns : goal.returns
unfolding rule_exists
returns c = search (ltb_one, rules)
