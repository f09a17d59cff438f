use borrow.Author.Rules.{rules}
use Rattle.screen.proofs.Laws.{ends}
use Rattle.screen.proofs.ends.Goals as goal

-- `screen::ends` meets its contract. Assumes nothing.

pub returns-then-is_too_long : goal.returns-then-is_too_long
returns-then-is_too_long c = search (ends, rules)

pub returns-then-not-at_end : goal.returns-then-not-at_end
returns-then-not-at_end c = search (ends, rules)

pub returns-then-rest-gt0 : goal.returns-then-rest-gt0
returns-then-rest-gt0 c = search (ends, rules)

pub returns-else-rest-gt0 : goal.returns-else-rest-gt0
returns-else-rest-gt0 c = search (ends, rules)
