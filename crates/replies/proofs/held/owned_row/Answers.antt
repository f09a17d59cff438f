use borrow.Author.Rules.{rules}
use Rattle.replies.proofs.Items.{owned_subject}
use Rattle.replies.proofs.held.owned_row.Goals as goal

-- `replies::held::owned_row` meets its contract. Assumes nothing.

pub returns-in-Ok : goal.returns-in-Ok
returns-in-Ok c = owned_subject _ _ (search rules) _ c.in-Ok.ensures _ (search rules)

pub returns-in-Err : goal.returns-in-Err
returns-in-Err c = owned_subject _ _ (search rules) _ c.in-Err.ensures _ (search rules)
