use borrow.Author.Rules.{rules}
use Rattle.reading.proofs.Answers.{style_is}
use Rattle.reading.proofs.read.direct_style.Goals as goal

pub returns : goal.returns
returns c = search (style_is, rules)
