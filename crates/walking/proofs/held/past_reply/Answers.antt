use Rattle.walking.proofs.Walking.{reply_ends, reply_goes}
use borrow.Author.Rules.{rules}
use Rattle.walking.proofs.held.past_reply.Goals as goal

-- `walking::held::past_reply` meets its contract. Assumes nothing.

pub returns-then-answer : goal.returns-then-answer
returns-then-answer c = search (reply_ends, rules)

pub returns : goal.returns
returns c = search (reply_goes, rules)
