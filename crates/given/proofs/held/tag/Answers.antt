use borrow.Author.Rules.{rules}
use Rattle.given.proofs.Rows.{number_none, number_set}
use Rattle.given.proofs.held.tag.Goals as goal

pub returns-then-word-eq0 : goal.returns-then-word-eq0
returns-then-word-eq0 c = search (number_none, rules)

pub returns : goal.returns
returns c = search (number_set, rules)
