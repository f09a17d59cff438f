use borrow.Author.Rules.{rules}
use Rattle.sheet.specs.Shape.{pools_fit}
use Rattle.sheet.proofs.ShapeLaws.{tests, pool_read}
use Rattle.sheet.proofs.shape.pools_fit.Goals as goal

pub returns-then-not-pool_fits : goal.returns-then-not-pool_fits
unfolding pools_fit
returns-then-not-pool_fits c = search (tests, pool_read, rules)

pub returns : goal.returns
unfolding pools_fit
returns c = search (tests, pool_read, rules)
