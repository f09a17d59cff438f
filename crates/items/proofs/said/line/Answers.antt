use borrow.Author.Rules.{rules}
use Rattle.items.proofs.Saying.{said_taken}
use Rattle.items.proofs.said.line.Goals as goal

-- `items::said::line` meets its contract. Assumes nothing.

pub returns : goal.returns
returns c = search (said_taken, rules)
