use borrow.Author.Rules.{rules}
use borrow.Author.Tests.{not-true, not-false}
use Rattle.steps.proofs.Answers.{tested, weigh_over, weigh_plain}
use Rattle.steps.proofs.SelectorStep.specificity.Goals as goal

pub returns-then-not-row_fits : goal.returns-then-not-row_fits
returns-then-not-row_fits c = search (weigh_over, not-true, rules)

pub step_specificity-requires : goal.step_specificity-requires
step_specificity-requires c = search (tested, rules)

pub returns : goal.returns
returns c = search (weigh_plain, not-false, rules)
