use borrow.Author.Rules.{rules}
use Rattle.sheet.proofs.ShapeLaws.{leb_read}
use Rattle.sheet.proofs.shape.word_fits.Goals as goal

pub returns : goal.returns
returns c = search (leb_read, rules)
