use borrow.Author.Rules.{rules}
use Rattle.selector.proofs.CheckLaws.{selector_passed}
use Rattle.selector.proofs.WeighLaws.{weigh_refused, weigh_sums}
use Rattle.weight.proofs.weigh.specificity.Goals as goal

pub returns-in_err-check_selector : goal.returns-in_err-check_selector
returns-in_err-check_selector c = search (weigh_refused, rules)

pub sum-requires : goal.sum-requires
sum-requires c = search (selector_passed, rules)

pub returns : goal.returns
returns c = weigh_sums _ _ _ _ (search rules) _ c.sum.ensures
