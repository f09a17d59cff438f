use borrow.Author.Rules.{rules}
use Rattle.sheet.specs.Shape.{list_fits, not_longer}
use Rattle.sheet.proofs.ShapeLaws.{tests, leb_read}
use Rattle.sheet.proofs.shape.list_fits.Goals as goal

pub returns-then-not-end_to_end : goal.returns-then-not-end_to_end
unfolding list_fits
returns-then-not-end_to_end c = search (tests, rules)

pub returns : goal.returns
unfolding list_fits not_longer
returns c = search (tests, leb_read, rules)
