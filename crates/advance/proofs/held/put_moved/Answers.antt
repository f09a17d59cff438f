use borrow.Author.Rules.{rules}
use Rattle.advance.proofs.Cursors.{moved_not, moved_last, moved_next}
use Rattle.advance.proofs.held.put_moved.Goals as goal

pub returns-then-last : goal.returns-then-last
returns-then-last c = search (moved_last, rules)

pub returns-then-passes : goal.returns-then-passes
returns-then-passes c = search (moved_next, rules)

pub returns : goal.returns
returns c = search (moved_not, rules)
