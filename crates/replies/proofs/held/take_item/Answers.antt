use borrow.Author.Rules.{rules}
use Rattle.replies.proofs.Items.{item_unknown, item_over_lem, item_put, item_fits}
use Rattle.replies.proofs.held.take_item.Goals as goal

-- `replies::held::take_item` meets its contract. Assumes nothing.

pub returns-then-which-gt3 : goal.returns-then-which-gt3
returns-then-which-gt3 c = item_unknown _ _ _ c.if-which-gt3.true

pub returns-then-item_over : goal.returns-then-item_over
returns-then-item_over c = item_over_lem _ _ _ c.if-which-gt3.false _ c.item_over.ensures c.if-item_over.true

pub put_item-requires : goal.put_item-requires
put_item-requires c = search (item_fits, rules)

pub returns : goal.returns
returns c =
    item_put _ _ _ c.if-which-gt3.false _ c.item_over.ensures c.if-item_over.false _ c.put_item.ensures
