use borrow.Author.Rules.{rules}
use Rattle.sheet.specs.Shape.{rule_counts_fit, rules_fit, steps_fit, ids_fit, next_fits}
use Rattle.sheet.proofs.ShapeLaws.{tests}
use Rattle.sheet.proofs.shape.rule_counts_fit.Goals as goal

pub returns-then-not-word_fits : goal.returns-then-not-word_fits
unfolding rule_counts_fit rules_fit steps_fit ids_fit next_fits
returns-then-not-word_fits c = search (tests, rules)

pub returns-then-not-word_fits-2 : goal.returns-then-not-word_fits-2
unfolding rule_counts_fit rules_fit steps_fit ids_fit next_fits
returns-then-not-word_fits-2 c = search (tests, rules)

pub returns-then-not-word_fits-3 : goal.returns-then-not-word_fits-3
unfolding rule_counts_fit rules_fit steps_fit ids_fit next_fits
returns-then-not-word_fits-3 c = search (tests, rules)

pub returns : goal.returns
unfolding rule_counts_fit rules_fit steps_fit ids_fit next_fits
returns c = search (tests, rules)
