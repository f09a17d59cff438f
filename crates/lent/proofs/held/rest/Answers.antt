use borrow.Author.Rules.{rules}
use Rattle.lent.proofs.Pool.{rest_none, rest_all}
use Rattle.lent.proofs.held.rest.Goals as goal

pub returns-then-words-from : goal.returns-then-words-from
returns-then-words-from g c = search (rest_none, rules)

pub returns : goal.returns
returns g c = search (rest_all, rules)
