use borrow.Author.Rules.{rules}
use Rattle.sheet.proofs.ShapeLaws.{tests, all_read}
use Rattle.table.specs.Shape.{numbers_exist}
use Rattle.table.proofs.shape.numbers_exist.Goals as goal

pub returns-then-not-cursors_exist : goal.returns-then-not-cursors_exist
unfolding numbers_exist
returns-then-not-cursors_exist c = search (tests, all_read, rules)

pub returns : goal.returns
unfolding numbers_exist
returns c = search (tests, all_read, rules)
