use borrow.Author.Rules.{rules}
use Rattle.sheet.proofs.ShapeLaws.{tests}
use Rattle.table.specs.Shape.{root_built}
use Rattle.table.proofs.shape.root_built.Goals as goal

pub returns-then-not-root_cursors : goal.returns-then-not-root_cursors
unfolding root_built
returns-then-not-root_cursors c = search (tests, rules)

pub returns : goal.returns
unfolding root_built
returns c = search (tests, rules)
