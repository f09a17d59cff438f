use borrow.Author.Rules.{rules}
use borrow.Author.Tests.{not-true, not-false}
use Rattle.finding.proofs.Finding.{other_cursors, same_cursors}
use Rattle.finding.proofs.held.is_state.Goals as goal

pub returns-then-not-same_lists : goal.returns-then-not-same_lists
returns-then-not-same_lists c = search (other_cursors, not-true, rules)

pub returns : goal.returns
returns c = search (same_cursors, not-false, rules)
