use borrow.Author.Rules.{rules}
use Rattle.advance.proofs.Advanced.{goes_parent, goes_root}
use Rattle.advance.proofs.held.goes_on.Goals as goal

pub returns-then-done-parent : goal.returns-then-done-parent
returns-then-done-parent c = search (goes_parent, rules)

pub returns : goal.returns
returns c = search (goes_root, rules)
