use borrow.Author.Rules.{rules}
use Rattle.lent.proofs.Pool.{start_first, start_later}
use Rattle.lent.proofs.lists.start_of.Goals as goal

pub returns-then-k-eq0 : goal.returns-then-k-eq0
returns-then-k-eq0 c = search (start_first, rules)

pub returns : goal.returns
returns c = search (start_later, rules)
