use borrow.Author.Rules.{rules}
use Rattle.sheet.proofs.Each.{each_below}
use Rattle.table.proofs.shape.cursors_exist.Goals as goal

pub returns : goal.returns
returns c = each_below _ _ _ _ _ c.all.ensures.ran (λ x b q k. search rules)
