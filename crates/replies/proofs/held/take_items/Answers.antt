use borrow.Author.Rules.{rules}
use Rattle.replies.proofs.Replying.{takes_item, takes_enter, takes_changed, takes_winner, takes_other}
use Rattle.replies.proofs.held.take_items.Goals as goal

-- `replies::held::take_items` meets its contract. Assumes nothing.

pub returns-in-9 : goal.returns-in-9
returns-in-9 c = search (takes_item, rules)

pub returns-in-10 : goal.returns-in-10
returns-in-10 c = search (takes_enter, rules)

pub returns-in-11 : goal.returns-in-11
returns-in-11 c = search (takes_changed, rules)

pub returns-in-12 : goal.returns-in-12
returns-in-12 c = search (takes_winner, rules)

pub returns-in_default : goal.returns-in_default
returns-in_default c = search (takes_other, rules)
