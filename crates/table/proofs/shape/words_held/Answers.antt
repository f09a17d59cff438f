use borrow.Author.Rules.{rules}
use Rattle.table.proofs.ShapeLaws.{leb_wide}
use Rattle.table.proofs.shape.words_held.Goals as goal

pub returns : goal.returns
returns c = search (leb_wide, rules)
