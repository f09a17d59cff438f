use Rattle.lines.proofs.Laws.{laid_number}
use borrow.Author.Rules.{rules}
use Rattle.lines.proofs.number.Goals as goal

-- `lines::number` meets its contract. Assumes nothing.

pub returns : goal.returns
returns c = search (laid_number, rules)
