use borrow.Author.Rules.{rules}
use Rattle.selector.proofs.RowLaws.{ids_are}
use Rattle.selector.proofs.held.ids.Goals as goal

pub returns : goal.returns
returns c = search (ids_are, rules)
