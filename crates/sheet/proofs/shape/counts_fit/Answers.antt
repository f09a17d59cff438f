use borrow.Author.Rules.{rules}
use Rattle.sheet.specs.Shape.{counts_fit}
use Rattle.sheet.proofs.ShapeLaws.{tests}
use Rattle.sheet.proofs.shape.counts_fit.Goals as goal

pub returns-then-not-room_enough : goal.returns-then-not-room_enough
unfolding counts_fit
returns-then-not-room_enough c = search (tests, rules)

pub returns-then-not-rule_counts_fit : goal.returns-then-not-rule_counts_fit
unfolding counts_fit
returns-then-not-rule_counts_fit c = search (tests, rules)

pub returns : goal.returns
unfolding counts_fit
returns c = search (tests, rules)
