use borrow.Author.Rules.{rules}
use Rattle.table.proofs.ShapeLaws.{cursor_past, cursor_sum, cursor_there}
use Rattle.table.proofs.shape.cursor_exists.Goals as goal

pub returns-then-word-r : goal.returns-then-word-r
returns-then-word-r c = search (cursor_past, rules)

pub overflow_add-result : goal.overflow_add-result
overflow_add-result c = search (cursor_sum, rules)

pub returns : goal.returns
returns c = search (cursor_there, rules)
