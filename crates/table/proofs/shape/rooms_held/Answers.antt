use borrow.Author.Rules.{rules}
use Rattle.sheet.proofs.ShapeLaws.{tests}
use Rattle.table.specs.Shape.{states_held, cursors_held, matched_held, transitions_held}
use Rattle.table.proofs.shape.rooms_held.Goals as goal

pub returns-then-not-rows_held : goal.returns-then-not-rows_held
unfolding states_held cursors_held matched_held transitions_held
returns-then-not-rows_held c = search (tests, rules)

pub returns-then-not-words_held : goal.returns-then-not-words_held
unfolding states_held cursors_held matched_held transitions_held
returns-then-not-words_held c = search (tests, rules)

pub returns-then-not-words_held-2 : goal.returns-then-not-words_held-2
unfolding states_held cursors_held matched_held transitions_held
returns-then-not-words_held-2 c = search (tests, rules)

pub returns : goal.returns
unfolding states_held cursors_held matched_held transitions_held
returns c = search (tests, rules)
