use borrow.Author.Rules.{rules}
use Rattle.sheet.proofs.ShapeLaws.{properties_are}
use Rattle.sheet.proofs.shape.properties_ascend.Goals as goal

pub returns : goal.returns
returns c = search (properties_are, rules)
