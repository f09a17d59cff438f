use borrow.Author.Rules.{rules}
use Rattle.sheet.proofs.ShapeLaws.{tests, cells}
use Rattle.sheet.proofs.shape.step_words_fit.Goals as goal

pub returns-then-not-cell_fits : goal.returns-then-not-cell_fits
returns-then-not-cell_fits c = search (tests, cells, rules)

pub returns-then-not-cell_fits-2 : goal.returns-then-not-cell_fits-2
returns-then-not-cell_fits-2 c = search (tests, cells, rules)

pub returns-then-not-cell_fits-3 : goal.returns-then-not-cell_fits-3
returns-then-not-cell_fits-3 c = search (tests, cells, rules)

pub returns : goal.returns
returns c = search (tests, cells, rules)
