use borrow.Author.Rules.{rules}
use Rattle.sheet.proofs.ShapeLaws.{ids_are}
use Rattle.sheet.proofs.Shaped.{counts_steps}
use Rattle.sheet.proofs.shape.ids_meet.Goals as goal

pub sum_ids-requires : goal.sum_ids-requires
sum_ids-requires c = search (counts_steps, rules)

pub returns : goal.returns
returns c = search (ids_are, rules)
