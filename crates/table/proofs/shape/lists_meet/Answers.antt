use borrow.Author.Rules.{rules}
use Rattle.sheet.proofs.ShapeLaws.{ends_no, ends_yes}
use Rattle.table.specs.Shape.{lists_meet}
use Rattle.table.proofs.ShapeLaws.{ends_last}
use Rattle.table.proofs.shape.lists_meet.Goals as goal

pub returns-then-not-ends_at : goal.returns-then-not-ends_at
unfolding lists_meet
returns-then-not-ends_at c = search (ends_no, rules)

pub returns : goal.returns
unfolding lists_meet
returns c = search (ends_yes, ends_last, rules)
