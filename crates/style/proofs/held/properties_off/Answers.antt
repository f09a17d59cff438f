use borrow.Author.Rules.{rules}
use Rattle.style.proofs.CheckLaws.{off_are}
use Rattle.style.proofs.held.properties_off.Goals as goal

pub returns : goal.returns
returns c = search (off_are, rules)
