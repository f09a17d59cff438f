use borrow.Author.Rules.{rules}
use Rattle.sheet.proofs.ShapeLaws.{tests}
use Rattle.table.specs.Shape.{table_shape}
use Rattle.table.proofs.shape.fits_sheet.Goals as goal

pub returns-then-not-counts_fit : goal.returns-then-not-counts_fit
unfolding table_shape
returns-then-not-counts_fit c = search (tests, rules)

pub returns-then-not-states_fine : goal.returns-then-not-states_fine
unfolding table_shape
returns-then-not-states_fine c = search (c.states_fine.ensures, tests, rules)

pub returns-then-not-numbers_exist : goal.returns-then-not-numbers_exist
unfolding table_shape
returns-then-not-numbers_exist c = search (c.states_fine.ensures, c.numbers_exist.ensures, tests, rules)

pub returns-then-not-transitions_fine : goal.returns-then-not-transitions_fine
unfolding table_shape
returns-then-not-transitions_fine c = search (c.states_fine.ensures, c.numbers_exist.ensures, tests, rules)

pub returns : goal.returns
unfolding table_shape
returns c = search (c.states_fine.ensures, c.numbers_exist.ensures, c.root_built.ensures, tests, rules)
