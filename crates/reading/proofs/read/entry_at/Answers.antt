use borrow.Author.Rules.{rules}
use Rattle.reading.proofs.Answers.{property_fits, entry_is}
use Rattle.reading.proofs.read.entry_at.Goals as goal

pub returns : goal.returns
returns c = search (property_fits, entry_is, rules)
