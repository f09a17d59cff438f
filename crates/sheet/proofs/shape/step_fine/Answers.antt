use borrow.Author.Rules.{rules}
use Rattle.sheet.proofs.ShapeLaws.{step_parts, tests, cells}
use Rattle.sheet.proofs.shape.step_fine.Goals as goal

pub returns-then-not-step_words_fit : goal.returns-then-not-step_words_fit
returns-then-not-step_words_fit c = search (step_parts, tests, cells, rules)

pub returns-then-not-ids_ascend : goal.returns-then-not-ids_ascend
returns-then-not-ids_ascend c = search (step_parts, tests, cells, rules)

pub returns-then-not-ids_ascend-2 : goal.returns-then-not-ids_ascend-2
returns-then-not-ids_ascend-2 c = search (step_parts, tests, cells, rules)

pub returns : goal.returns
returns c = search (step_parts, tests, cells, rules)
