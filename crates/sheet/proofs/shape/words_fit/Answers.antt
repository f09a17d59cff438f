use borrow.Author.Rules.{rules}
use Rattle.sheet.proofs.ShapeLaws.{words_most}
use Rattle.sheet.proofs.shape.words_fit.Goals as goal

pub returns : goal.returns
returns c = search (words_most, rules)
