use borrow.Author.Rules.{rules}
use Rattle.sheet.proofs.ShapeLaws.{tests}
use Rattle.table.specs.Shape.{counts_fit, states_fit, ranking_fits}
use Rattle.table.proofs.shape.counts_fit.Goals as goal

pub returns-then-not-root_there : goal.returns-then-not-root_there
unfolding counts_fit states_fit ranking_fits
returns-then-not-root_there c = search (tests, rules)

pub returns-then-not-is_at_most : goal.returns-then-not-is_at_most
unfolding counts_fit states_fit ranking_fits
returns-then-not-is_at_most c = search (tests, rules)

pub returns-then-not-is_at_most-2 : goal.returns-then-not-is_at_most-2
unfolding counts_fit states_fit ranking_fits
returns-then-not-is_at_most-2 c = search (tests, rules)

pub returns : goal.returns
unfolding counts_fit states_fit ranking_fits
returns c = search (tests, rules)
