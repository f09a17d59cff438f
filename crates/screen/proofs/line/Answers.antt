use borrow.Author.Rules.{rules}
use Rattle.screen.proofs.Laws.{front_is}
use Rattle.screen.proofs.line.Goals as goal

-- `screen::line` meets its contract. Assumes nothing.

pub returns : goal.returns
returns c = search (front_is, rules)
