use borrow.Author.Rules.{rules}
use Rattle.sheet.specs.Shape.{pool_fits, properties_fit, kinds_fit}
use Rattle.sheet.proofs.ShapeLaws.{tests}
use Rattle.sheet.proofs.shape.pool_fits.Goals as goal

pub returns-then-not-words_fit : goal.returns-then-not-words_fit
unfolding pool_fits properties_fit kinds_fit
returns-then-not-words_fit c = search (tests, rules)

pub returns : goal.returns
unfolding pool_fits properties_fit kinds_fit
returns c = search (tests, rules)
