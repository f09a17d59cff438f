use borrow.Author.Rules.{rules}
use Rattle.table.proofs.Same.{same_told}
use Rattle.cached.proofs.Alike.{lengths_differ}
use Rattle.cached.proofs.held.same_lists.Goals as goal

pub returns-then-list-other : goal.returns-then-list-other
returns-then-list-other c = search (lengths_differ, rules)

pub returns : goal.returns
returns c = search (same_told, rules)
