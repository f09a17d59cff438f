use borrow.Author.Rules.{rules}
use Rattle.sheet.proofs.ShapeLaws.{adding}
use Rattle.sheet.proofs.shape.sum_ids.Goals as goal

pub loop-s-init : goal.loop-s-init
loop-s-init c = search (adding, rules)

pub loop-s-preserved : goal.loop-s-preserved
loop-s-preserved c = search (adding, rules)

pub returns : goal.returns
returns c = search (adding, rules)
