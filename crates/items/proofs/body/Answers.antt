use borrow.Author.Rules.{rules}
use Rattle.items.proofs.Laws.{body_short, body_is}
use Rattle.items.proofs.body.Goals as goal

-- `items::body` meets its contract. Assumes nothing.

pub returns-then-item-lt8 : goal.returns-then-item-lt8
returns-then-item-lt8 c = search (body_short, rules)

pub returns : goal.returns
returns c = search (body_is, rules)
