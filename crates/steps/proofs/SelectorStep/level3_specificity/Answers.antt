use borrow.Author.Rules.{rules}
use borrow.Author.Tests.{not-true, not-false}
use Rattle.steps.proofs.Answers.{tested, weigh_over, weigh_level3}
use Rattle.steps.proofs.SelectorStep.level3_specificity.Goals as goal

pub returns-then-not-row_fits : goal.returns-then-not-row_fits
returns-then-not-row_fits c = search (weigh_over, not-true, rules)

pub step_specificity-w-requires : goal.step_specificity-w-requires
step_specificity-w-requires c = search (tested, rules)

pub returns : goal.returns
returns c = search (weigh_level3, not-false, rules)
