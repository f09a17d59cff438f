use borrow.Author.Rules.{rules}
use Rattle.replies.proofs.Replying.{lost_not, lost_is}
use Rattle.replies.proofs.held.check_state.Goals as goal

-- `replies::held::check_state` meets its contract. Assumes nothing.

pub returns-then-state-word : goal.returns-then-state-word
returns-then-state-word c = search (lost_not, rules)

pub returns : goal.returns
returns c = search (lost_is, rules)
