use borrow.Author.Rules.{rules}
use Rattle.items.proofs.Laws.{long_short, long_by}
use Rattle.items.proofs.is_too_long.Goals as goal

-- `items::is_too_long` meets its contract. Assumes nothing.

pub returns-then-input-lt8 : goal.returns-then-input-lt8
returns-then-input-lt8 c = search (long_short, rules)

pub returns : goal.returns
returns c = search (long_by, rules)
