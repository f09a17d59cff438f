use borrow.Author.Rules.{rules}
use Rattle.sheet.proofs.ShapeLaws.{tests}
use Rattle.table.specs.Shape.{transition_fine, parent_exists, child_exists}
use Rattle.table.proofs.shape.transition_fine.Goals as goal

pub returns-then-not-state_exists : goal.returns-then-not-state_exists
unfolding transition_fine parent_exists child_exists
returns-then-not-state_exists c = search (tests, rules)

pub returns-then-not-state_exists-2 : goal.returns-then-not-state_exists-2
unfolding transition_fine parent_exists child_exists
returns-then-not-state_exists-2 c = search (tests, rules)

pub returns : goal.returns
unfolding transition_fine parent_exists child_exists
returns c = search (tests, rules)
