use borrow.Author.Rules.{rules}
use Rattle.sheet.proofs.ShapeLaws.{ids_rise}
use Rattle.sheet.proofs.shape.ids_ascend.Goals as goal

pub returns : goal.returns
returns c = search (ids_rise, rules)
