use borrow.Author.Rules.{rules}
use Rattle.items.proofs.Laws.{ends}
use Rattle.items.proofs.held.end.Goals as goal

-- `items::held::end` meets its contract. Assumes nothing.

pub returns-then-left-lt8 : goal.returns-then-left-lt8
returns-then-left-lt8 c = search (ends, rules)

pub returns-then-n-gt-MOST : goal.returns-then-n-gt-MOST
returns-then-n-gt-MOST c = search (ends, rules)

pub returns-then-left-size : goal.returns-then-left-size
returns-then-left-size c = search (ends, rules)

pub returns-else-left-size : goal.returns-else-left-size
returns-else-left-size c = search (ends, rules)
