use borrow.Author.Rules.{rules}
use Rattle.sheet.specs.Shape.{rule_fine, origin_fits, source_fits}
use Rattle.sheet.proofs.ShapeLaws.{tests}
use Rattle.sheet.proofs.shape.rule_fine.Goals as goal

pub returns-then-not-cell_fits : goal.returns-then-not-cell_fits
unfolding rule_fine origin_fits source_fits
returns-then-not-cell_fits c = search (tests, rules)

pub returns-then-not-cell_fits-2 : goal.returns-then-not-cell_fits-2
unfolding rule_fine origin_fits source_fits
returns-then-not-cell_fits-2 c = search (tests, rules)

pub returns : goal.returns
unfolding rule_fine origin_fits source_fits
returns c = search (tests, rules)
