use borrow.Author.Rules.{rules}
use Rattle.sheet.proofs.ShapeLaws.{tests}
use Rattle.table.specs.Shape.{state_fine, cursors_ascend, matched_ascend}
use Rattle.table.proofs.shape.state_fine.Goals as goal

pub returns-then-not-end_to_end : goal.returns-then-not-end_to_end
unfolding state_fine cursors_ascend matched_ascend
returns-then-not-end_to_end c = search (tests, rules)

pub returns-then-not-end_to_end-2 : goal.returns-then-not-end_to_end-2
unfolding state_fine cursors_ascend matched_ascend
returns-then-not-end_to_end-2 c = search (tests, rules)

pub returns-then-not-list_ascends : goal.returns-then-not-list_ascends
unfolding state_fine cursors_ascend matched_ascend
returns-then-not-list_ascends c = search (tests, rules)

pub returns : goal.returns
unfolding state_fine cursors_ascend matched_ascend
returns c = search (tests, rules)
