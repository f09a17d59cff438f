use borrow.Author.Rules.{rules}
use Rattle.style.proofs.CheckLaws.{kinds_are}
use Rattle.style.proofs.held.kinds_over.Goals as goal

pub returns : goal.returns
returns c = search (kinds_are, rules)
