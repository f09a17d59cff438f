use borrow.Author.Rules.{rules}
use Rattle.reading.proofs.Answers.{before_is}
use Rattle.reading.proofs.read.combinator_before.Goals as goal

pub returns : goal.returns
returns c = search (before_is, rules)
