use borrow.Author.Rules.{rules}
use Rattle.items.proofs.Saying.{first_equal}
use Rattle.items.proofs.said.refused.Goals as goal

-- `items::said::refused` meets its contract. Assumes nothing.

pub returns : goal.returns
returns c = search (first_equal, rules)
