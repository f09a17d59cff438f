use borrow.Author.Rules.{rules}
use Rattle.sheet.proofs.ShapeLaws.{entries_are}
use Rattle.sheet.proofs.shape.entries_fit.Goals as goal

pub returns : goal.returns
returns c = search (entries_are, rules)
