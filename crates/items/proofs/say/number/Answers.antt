use borrow.Author.Rules.{rules}
use Rattle.items.proofs.Saying.{said_number}
use Rattle.items.proofs.say.number.Goals as goal

-- `items::say::number` meets its contract. Assumes nothing.

pub returns : goal.returns
returns c = search (said_number, rules)
