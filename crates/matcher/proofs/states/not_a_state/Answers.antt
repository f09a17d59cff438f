use borrow.Author.Rules.{rules}
use Rattle.matcher.proofs.Listed.{stamp_differs, stamp_same}
use Rattle.matcher.proofs.states.not_a_state.Goals as goal

pub returns-then-state-word : goal.returns-then-state-word
returns-then-state-word c = search (stamp_differs, rules)

pub returns : goal.returns
returns c = search (stamp_same, rules)
