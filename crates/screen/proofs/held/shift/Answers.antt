use borrow.Author.Rules.{rules}
use Rattle.screen.proofs.Shifting.{shifted}
use Rattle.screen.proofs.held.shift.Goals as goal

-- `screen::held::shift` meets its contract. Assumes nothing.

pub returns : goal.returns
returns c = search (shifted, rules)
