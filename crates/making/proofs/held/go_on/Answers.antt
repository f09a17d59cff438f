use borrow.Author.Rules.{rules}
use Rattle.making.proofs.Taking.{placed_number, placed_adds, on_refused, on_passed}
use Rattle.making.proofs.held.go_on.Goals as goal

-- `making::held::go_on` meets its contract. Assumes nothing.

pub returns-in-Err : goal.returns-in-Err
returns-in-Err c = search (on_refused, placed_number, placed_adds, c.in-Err.is, rules)

pub returns-in-Ok : goal.returns-in-Ok
returns-in-Ok c = search (on_passed, c.in-Ok.is, rules)
