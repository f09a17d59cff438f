use borrow.Author.Rules.{rules}
use Rattle.advance.proofs.Putting.{ends_none, ends_some}
use Rattle.advance.proofs.held.ends_with.Goals as goal

pub returns-then-used-eq0 : goal.returns-then-used-eq0
returns-then-used-eq0 c = search (ends_none, rules)

pub returns : goal.returns
returns c = search (ends_some, rules)
