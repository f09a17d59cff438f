use borrow.Author.Rules.{rules}
use borrow.Rule.Slice.PartMut.{take_put}
use Rattle.screen.proofs.held.fill.Goals as goal

-- `screen::held::fill` meets its contract. Assumes nothing.

pub returns : goal.returns
returns c = search (take_put, rules)
