use borrow.Author.Rules.{rules}
use Rattle.sheet.specs.Shape.{ends_meet}
use Rattle.sheet.proofs.ShapeLaws.{ends_no, ends_yes}
use Rattle.sheet.proofs.shape.ends_meet.Goals as goal

pub returns-then-not-ends_at : goal.returns-then-not-ends_at
unfolding ends_meet
returns-then-not-ends_at c = search (ends_no, ends_yes, rules)

pub returns-then-not-ends_at-2 : goal.returns-then-not-ends_at-2
unfolding ends_meet
returns-then-not-ends_at-2 c = search (ends_no, ends_yes, rules)

pub returns-then-not-ends_at-3 : goal.returns-then-not-ends_at-3
unfolding ends_meet
returns-then-not-ends_at-3 c = search (ends_no, ends_yes, rules)

pub returns : goal.returns
unfolding ends_meet
returns c = search (ends_no, ends_yes, rules)
