use borrow.Author.Rules.{rules}
use Rattle.items.proofs.Saying.{said_equal}
use Rattle.items.proofs.say.refused.Goals as goal

-- `items::say::refused` meets its contract. Assumes nothing.

pub returns : goal.returns
returns c = search (said_equal, rules)
