use borrow.Author.Rules.{rules}
use Rattle.selector.proofs.CheckLaws.{over_steps, over_rows, over_combinators, over_last}
use Rattle.checks.proofs.held.selector_over.Goals as goal

pub returns-then-n-gt8 : goal.returns-then-n-gt8
returns-then-n-gt8 c = search (over_steps, rules)

pub returns-then-steps-n : goal.returns-then-steps-n
returns-then-steps-n c = search (over_rows, rules)

pub returns-then-combinators-c : goal.returns-then-combinators-c
returns-then-combinators-c c = search (over_combinators, rules)

pub returns : goal.returns
returns c = search (over_last, rules)
