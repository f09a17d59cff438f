use borrow.Author.Rules.{rules}
use Rattle.sheet.proofs.ShapeLaws.{tests, all_read}
use Rattle.table.specs.Shape.{states_fine}
use Rattle.table.proofs.shape.states_fine.Goals as goal

pub returns-then-not-each_state_fine : goal.returns-then-not-each_state_fine
unfolding states_fine
returns-then-not-each_state_fine c = search (tests, all_read, rules)

pub returns : goal.returns
unfolding states_fine
returns c = search (tests, all_read, rules)
