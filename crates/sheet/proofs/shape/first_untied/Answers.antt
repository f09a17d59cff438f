use borrow.Author.Rules.{rules}
use Rattle.sheet.proofs.ShapeLaws.{untied_none, untied_some}
use Rattle.sheet.proofs.shape.first_untied.Goals as goal

pub returns-then-first-cell : goal.returns-then-first-cell
returns-then-first-cell c = search (untied_some, rules)

pub returns : goal.returns
returns c = search (untied_none, rules)
