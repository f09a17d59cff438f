use borrow.Author.Rules.{rules}
use Rattle.replies.proofs.Replying.{either_second, either_first}
use Rattle.replies.proofs.held.check_states.Goals as goal

-- `replies::held::check_states` meets its contract. Assumes nothing.

pub returns-in_err-check_state : goal.returns-in_err-check_state
returns-in_err-check_state c = search (either_first, c.in_err-check_state.ensures, rules)

pub returns : goal.returns
returns c = search (either_second, c.in_ok-check_state.ensures, rules)
