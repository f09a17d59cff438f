use borrow.Author.Rules.{rules}
use Rattle.sheet.proofs.ShapeLaws.{list_ends}
use Rattle.sheet.proofs.shape.end_to_end.Goals as goal

pub returns : goal.returns
returns c = search (list_ends, rules)
