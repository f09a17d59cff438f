use Rattle.walking.proofs.Walking.{ahead_ends, ahead_full, ahead_none, ahead_front}
use borrow.Author.Rules.{rules}
use Rattle.walking.proofs.held.ahead.Goals as goal

-- `walking::held::ahead` meets its contract. Assumes nothing.

pub returns-then-w : goal.returns-then-w
returns-then-w c = search (ahead_ends, rules)

pub returns-then-w-gt40000 : goal.returns-then-w-gt40000
returns-then-w-gt40000 c = search (ahead_full, rules)

pub returns-then-input-at : goal.returns-then-input-at
returns-then-input-at c = search (ahead_none, rules)

pub returns : goal.returns
returns c = search (ahead_front, rules)
