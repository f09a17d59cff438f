use borrow.Author.Rules.{rules}
use Rattle.sheet.proofs.ShapeLaws.{ends_are}
use Rattle.sheet.proofs.shape.ends_at.Goals as goal

pub returns : goal.returns
returns c = search (ends_are, rules)
