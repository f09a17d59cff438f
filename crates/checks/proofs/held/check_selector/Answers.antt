use borrow.Author.Rules.{rules}
use Rattle.selector.specs.Checks.{selector_verdict}
use Rattle.lent.proofs.Refusals.{firsts}
use Rattle.selector.proofs.CheckLaws.{combinators_there}
use Rattle.checks.proofs.held.check_selector.Goals as goal

pub returns-then-selector_over : goal.returns-then-selector_over
unfolding selector_verdict
returns-then-selector_over c = search (firsts, rules)

pub check_combinators-requires : goal.check_combinators-requires
check_combinators-requires c = search (combinators_there, rules)

pub returns : goal.returns
unfolding selector_verdict
returns c = search (firsts, rules)
