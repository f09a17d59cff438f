use borrow.Author.Rules.{rules}
use Rattle.sheet.specs.Shape.{rule_lists_fit}
use Rattle.sheet.proofs.ShapeLaws.{tests}
use Rattle.sheet.proofs.shape.rule_lists_fit.Goals as goal

pub returns-then-not-list_fits : goal.returns-then-not-list_fits
unfolding rule_lists_fit
returns-then-not-list_fits c = search (tests, rules)

pub returns-then-not-list_fits-2 : goal.returns-then-not-list_fits-2
unfolding rule_lists_fit
returns-then-not-list_fits-2 c = search (tests, rules)

pub returns-then-not-first_untied : goal.returns-then-not-first_untied
unfolding rule_lists_fit
returns-then-not-first_untied c = search (tests, rules)

pub returns : goal.returns
unfolding rule_lists_fit
returns c = search (tests, rules)
