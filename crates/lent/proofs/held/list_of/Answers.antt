use borrow.Author.Rules.{rules}
use Rattle.lent.proofs.Pool.{list_is}
use Rattle.lent.proofs.held.list_of.Goals as goal

pub returns : goal.returns
returns c = search (list_is, rules)
